-- What a contract sees of a sender's pass.
use Rattle.std.specs.Prelude.{ℕ, List}
use Rattle.std.specs.Arc.{arc_value}
use Rattle.flow_control.specs.declared.stream.StreamFlow.{StreamFlow}
use Rattle.frame_source.specs.Sources.{Source}
use Rattle.sender.specs.Sending.{Sending}
use Rattle.shared_log.specs.Sourced.{source_of}
use Rattle.claims.specs.declared.passes.reading.ReaderPass.{ReaderPass}

-- its core, which reads by a reader's pass, and the datagrams that have yet to go out
pub record SenderValue : Type 0 where
  pub core : Sending ReaderPass StreamFlow
  pub left : List (List ℕ)

-- what a core reads of its log
abbrev pub source_in : Sending ReaderPass StreamFlow → Source
source_in core = source_of (arc_value core.reads.log) core.reads.reader
