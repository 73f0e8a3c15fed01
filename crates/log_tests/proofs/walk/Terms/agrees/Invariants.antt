use Rattle.std.proofs.Common.{◌≡◌}
use Rattle.log_tests.proofs.walk.Terms.agrees.Given as goal

abbrev pub invariant-loop-index : goal.invariant-loop-index
invariant-loop-index l = l.log ≡ l.fn.log
