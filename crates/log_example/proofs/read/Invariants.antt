use Rattle.shared_log.specs.Readers.{IsReaderOf}
use Rattle.log_example.proofs.read.Given as goal

abbrev pub invariant-loop : goal.invariant-loop
invariant-loop l = IsReaderOf l.log l.messages.reader
