use Rattle.latency.specs.Followers.{IsFollower}
use Rattle.latency.proofs.log_follower.read_message.Given as goal

abbrev pub invariant-loop : goal.invariant-loop
invariant-loop g l = IsFollower l.offers.log.now l.follower
