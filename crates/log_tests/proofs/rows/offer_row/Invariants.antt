use Rattle.shared_log.specs.Steps.Handles.{IsOf}
use Rattle.log_tests.proofs.rows.offer_row.Given as goal

abbrev pub invariant-loop-size : goal.invariant-loop-size
invariant-loop-size g l = IsOf l.log l.publisher
