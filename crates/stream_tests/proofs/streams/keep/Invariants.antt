use Rattle.shared_log.specs.Steps.Handles.{IsOf}
use Rattle.stream_tests.proofs.streams.keep.Given as goal

abbrev pub invariant-loop : goal.invariant-loop
invariant-loop l = IsOf l.log l.keeper.held
