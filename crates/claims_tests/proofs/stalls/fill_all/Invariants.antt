use Rattle.claims_tests.specs.OtherPasses.{AreOtherPasses}
use Rattle.claims_tests.proofs.stalls.fill_all.Given as goal

abbrev pub invariant-loop-term : goal.invariant-loop-term
invariant-loop-term g l = AreOtherPasses l.log l.others
