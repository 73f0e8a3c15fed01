-- A cycle of a sender's core, to one receiver or to a group: the datagrams that came, and then the moment.
use Rattle.std.specs.Prelude.{ℕ, List}
use Rattle.flow_control.specs.Stream.{has_heard_of, reached_of, status_after, tick_after}
use Rattle.flow_control.specs.declared.stream.StreamFlow.{StreamFlow}
use Rattle.shared_log.specs.Sourced.{Grows}
use Rattle.shared_log.specs.declared.reader.source.LogFrames.{LogFrames}
use Rattle.sender.specs.Sending.{Sending}
use Rattle.agents.specs.Cycles.{HearsAll}
use Rattle.agents.specs.Duties as duties
use Rattle.sender_meaning.specs.Lives.{looked_in, source_in, stays_in}

-- the core of a log's sender
abbrev pub StreamCore : Type 0
StreamCore = Sending LogFrames StreamFlow

abbrev pub HearsThere : StreamCore → ℕ → List ℕ → StreamCore → List (List ℕ) → Type 0
HearsThere s now bytes t given = duties.Hears source_in stays_in status_after reached_of has_heard_of s now bytes t given

abbrev pub TicksThere : StreamCore → ℕ → StreamCore → List (List ℕ) → Type 0
TicksThere s now t given = duties.Ticks source_in stays_in looked_in Grows tick_after reached_of s now t given

-- it heard these datagrams at a moment, one after the other, and was told the moment then
pub record CyclesAt (now : ℕ) (s t : StreamCore) : Type 0 where
  pub datagrams : List (List ℕ)
  pub answers : List (List ℕ)
  pub heard : StreamCore
  pub all : HearsAll HearsThere now s datagrams heard answers
  pub given : List (List ℕ)
  pub told : TicksThere heard now t given
