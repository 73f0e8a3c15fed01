use Rattle.claims_tests.specs.OtherPasses.{AreOtherPasses}
use Rattle.claims_tests.proofs.stalls.fill.Given as goal

abbrev pub invariant-loop-count : goal.invariant-loop-count
invariant-loop-count g l = AreOtherPasses l.log l.others
