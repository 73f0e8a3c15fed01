-- The reader of a log that opens.
use Rattle.std.proofs.Common.{arith}
use Rattle.shared_log.specs.Steps.Handles.{LogValue}
use Rattle.shared_log.specs.Readers.{IsReaderOf, ReaderValue}
use Rattle.shared_log.specs.Parts.{IsNewReader}
use Rattle.run_parties.specs.RunLogs.{IsRunLog}

pub is_reader : (l : LogValue) (r : ReaderValue) → IsNewReader l 0 r → IsRunLog l → IsReaderOf l r
is_reader l r new is = record { of = new.held.of; number = omega (arith, new.number_is, is.consumers) }
