use Rattle.shared_log.specs.Steps.Handles.{IsOf}
use Rattle.stream_tests.proofs.streams.publish.Given as goal

abbrev pub invariant-loop-count : goal.invariant-loop-count
invariant-loop-count l = IsOf l.log l.publisher
