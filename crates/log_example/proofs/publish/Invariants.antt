use Rattle.shared_log.specs.Steps.Handles.{IsOf}
use Rattle.log_example.proofs.publish.Given as goal

abbrev pub invariant-loop-line : goal.invariant-loop-line
invariant-loop-line l = IsOf l.log l.publisher
