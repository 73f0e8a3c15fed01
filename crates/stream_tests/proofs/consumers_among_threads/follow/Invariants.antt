use Rattle.stream_tests.specs.Consumers.{IsSingle}
use Rattle.stream_tests.proofs.consumers_among_threads.follow.Given as goal

abbrev pub invariant-loop : goal.invariant-loop
invariant-loop l = IsSingle l.log l.messages.reader
