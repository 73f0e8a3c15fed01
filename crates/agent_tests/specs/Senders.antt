-- What the tests keep of a sender.
use Rattle.std.specs.Prelude.{◌≡◌, pos}
use Rattle.shared_log.specs.Steps.Handles.{LogValue}
use Rattle.sender.specs.Sending.{Sending, SendsFrom}
use Rattle.shared_log.specs.Readers.{IsReaderOf}
use Rattle.shared_log.specs.Sourced.{source_of}
use Rattle.shared_log.specs.declared.reader.source.LogFrames.{LogFrames}

-- it reads its log, and has sent what comes before its position
pub record IsSender {F : Type 0} (s : Sending LogFrames F) : Type 0 where
  pub stands : IsReaderOf s.reads.log.now s.reads.reader
  pub from : SendsFrom s (source_of s.reads.log.now s.reads.reader)
  pub size : s.identity.geometry.mtu ≡ 1408

-- a log of these tests
pub record IsFirstLog (l : LogValue) : Type 0 where
  pub session : l.identity.session ≡ pos 1
  pub stream : l.identity.stream ≡ pos 1001
  pub term : l.identity.geometry.term_length ≡ 65536
  pub mtu : l.identity.geometry.mtu ≡ 1408
  pub start : l.start ≡ 0
  pub consumers : l.consumers ≡ 1
