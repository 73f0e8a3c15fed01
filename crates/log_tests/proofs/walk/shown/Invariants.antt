use Rattle.std.proofs.Common.{◌≡◌}
use Rattle.log_tests.proofs.walk.shown.Given as goal

abbrev pub invariant-loop-place : goal.invariant-loop-place
invariant-loop-place l = l.log ≡ l.fn.log
