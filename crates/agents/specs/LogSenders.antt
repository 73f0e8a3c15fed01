-- The sender of a log that threads share.
use Rattle.std.specs.Prelude.{◌≡◌, false}
use Rattle.shared_log.specs.Steps.Handles.{LogValue}
use Rattle.sender.specs.Sending.{SendsFrom, begun}
use Rattle.shared_log.specs.Readers.{IsReaderOf, ReaderValue}
use Rattle.shared_log.specs.Sourced.{source_of}
use Rattle.shared_log.specs.declared.reader.source.LogFrames.{LogFrames}
use Rattle.agents.specs.Duties.{Agent}

-- it reads a log, has sent what comes before its position, and its datagrams have this log's MTU
pub record SendsLog {F : Type 0} (l : LogValue) (a : Agent LogFrames F) : Type 0 where
  pub stands : IsReaderOf a.core.reads.log.now a.core.reads.reader
  pub from : SendsFrom a.core (source_of a.core.reads.log.now a.core.reads.reader)
  pub size : a.core.identity.geometry.mtu ≡ l.identity.geometry.mtu

-- it has heard and sent nothing, sends this log's stream from its start by this flow control, and reads it by this reader
pub record IsNewSenderBy {F : Type 0} (flow : F) (l : LogValue) (r : ReaderValue) (a : Agent LogFrames F) : Type 0 where
  pub made : a ≡ record { core = begun l.identity l.start a.core.reads flow; asked = false }
  pub log_is : a.core.reads.log.now ≡ l
  pub reader_is : a.core.reads.reader ≡ r
