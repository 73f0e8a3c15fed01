use Rattle.std.proofs.Common.{◌≡◌, vec_len}
use Rattle.latency.specs.Followers.{IsFollower}
use Rattle.latency.proofs.log_follower.read_all.Given as goal

abbrev pub invariant-loop : goal.invariant-loop
invariant-loop g l = IsFollower l.offers.log.now l.follower × (vec_len l.samples.taken ≡ l.counter)
