use Rattle.shared_log.specs.Readers.{IsReaderOf}
use Rattle.claims_tests.proofs.holds.read.Given as goal

abbrev pub invariant-loop : goal.invariant-loop
invariant-loop l = IsReaderOf l.log l.messages.reader
