use Rattle.shared_log.specs.Steps.Handles.{IsOf}
use Rattle.cycle_tests.proofs.group.publish_all.Given as goal

abbrev pub invariant-loop-value : goal.invariant-loop-value
invariant-loop-value l = IsOf l.log l.publisher
