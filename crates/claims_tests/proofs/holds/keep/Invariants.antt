use Rattle.claims_tests.specs.Passes.{IsKeeping}
use Rattle.claims_tests.proofs.holds.keep.Given as goal

abbrev pub invariant-loop : goal.invariant-loop
invariant-loop l = IsKeeping l.log l.keeper
