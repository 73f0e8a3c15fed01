use Rattle.std.proofs.Common.{◌≤◌}
use Rattle.log_tests.proofs.crowd.eight_publishers.Given as goal

abbrev pub invariant-loop-seed : goal.invariant-loop-seed
invariant-loop-seed g l = l.turns ≤ l.seed
