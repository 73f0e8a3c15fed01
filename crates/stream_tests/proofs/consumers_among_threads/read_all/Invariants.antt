use Rattle.shared_log.specs.Readers.{IsReaderOf}
use Rattle.stream_tests.proofs.consumers_among_threads.read_all.Given as goal

abbrev pub invariant-loop : goal.invariant-loop
invariant-loop l = IsReaderOf l.log l.messages.reader
