use Rattle.shared_log.specs.Steps.Handles.{IsOf}
use Rattle.log_tests.proofs.publishing.publish_all.Given as goal

abbrev pub invariant-loop : goal.invariant-loop
invariant-loop g l = IsOf l.log l.publisher
