use Rattle.claims_tests.specs.OtherPasses.{IsFollower}
use Rattle.claims_tests.proofs.stalls_among_threads.follow_all.Given as goal

abbrev pub invariant-loop : goal.invariant-loop
invariant-loop l = IsFollower l.log l.follower
