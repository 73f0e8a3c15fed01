-- What contracts see of a simulation, which states it represents, and what a line makes of them.
use Rattle.std.specs.Prelude.{◌≡◌, ◌≤◌, ℕ, ⊤, IfSome, Some, List, [], ◌∷◌, ◌++◌, length, map}
use Rattle.theory.specs.Position.{Geometry}
use Rattle.script.specs.Meaning.{CommandContent}
use Rattle.one_hand.specs.Reads.{source_of}
use Rattle.one_hand.specs.Stream.{HasConsumer, Stream}
use Rattle.one_hand.specs.declared.hand_reader.HandReader.{HandReader}
use Rattle.receiver.specs.Receiving.{Receiver}
use Rattle.receiver.specs.Subscribing.{RepresentsSubscriber, Subscribing}
use Rattle.flow_control.specs.Stream.{flow_after}
use Rattle.flow_control.specs.declared.stream.StreamFlow.{StreamFlow}
use Rattle.frame_source.specs.Sources.{Source}
use Rattle.model.specs.Sender.{Sender}
use Rattle.sender.specs.Resending.Handler.{Handler}
use Rattle.sender.specs.Sending.{Sending}
use Rattle.script_meaning.specs.Answers.{Answers, has_come}
use Rattle.script_meaning.specs.LineContents.{LineContent}
use Rattle.script_meaning.specs.ScriptState.{ScriptState, seat_of}
use Rattle.script_meaning.specs.Standing.{IsPlayed, handler_of}
use Rattle.simulation.specs.Lines.{line_contents}
use Rattle.simulation.specs.declared.line.Line.{Line}
use Rattle.simulation.specs.Reading.{MayBeOffered}

-- a log with its sender and its other readers, eight subscribers, and the packets that were given out
pub record Simulated : Type 0 where
  pub log : Stream
  pub sender : Sending HandReader StreamFlow
  pub subscribers : List Subscribing
  pub packets : List (List ℕ)

-- the sender is of this log, and stands where its reader does
pub record IsSenderOf (v : Sending HandReader StreamFlow) (source : Source) : Type 0 where
  pub identity : source.identity ≡ v.identity
  pub position : source.position ≡ v.handler.at

-- the log's first consumer is its sender, a frame fits the block, a datagram the outbox, and there are eight subscribers
pub record IsStage (v : Simulated) (block outbox : ℕ) : Type 0 where
  pub room : v.log.identity.geometry.mtu ≤ block
  pub size : outbox ≡ v.log.identity.geometry.mtu
  pub first : v.sender.reads.number ≡ 0
  pub from : IsSenderOf v.sender (source_of v.log v.sender.reads.number)
  pub there : HasConsumer v.log v.sender.reads.number
  pub eight : length v.subscribers ≡ 8

-- each subscriber represents the receiver of its number
abbrev pub AllShow : List Subscribing → List Receiver → Type 0
AllShow [] [] = ⊤
AllShow [] (r ∷ rs) = ⊥
AllShow (v ∷ vs) [] = ⊥
AllShow (v ∷ vs) (r ∷ rs) = RepresentsSubscriber v r × AllShow vs rs

pub record RepresentsHandler (h : Handler) (g : Geometry) (start : ℕ) (x : Sender) : Type 0 where
  pub clock : ℕ
  pub seen : clock ≤ x.clock
  pub is : h ≡ handler_of g start x clock

pub record RepresentsSender (v : Sending HandReader StreamFlow) (s : ScriptState) : Type 0 where
  pub flow : v.flow ≡ flow_after s.sender.group s.log.start s.sender.heard
  pub small : IfSome s.sender.group (λ size. size ≤ 8)
  pub naming : v.naming ≡ s.naming
  pub heard : v.heard ≡ has_come s.sender.heard
  pub handler : RepresentsHandler v.handler s.log.identity.geometry s.log.start s.sender
  pub last : v.last ≡ s.last
  pub clock : v.clock ≡ s.sender.clock

pub record RepresentsState (v : Simulated) (s : ScriptState) : Type 0 where
  pub log : s.log ≡ v.log
  pub sender : RepresentsSender v.sender s
  pub consumers : v.log.consumers ≡ Some s.sender.at ∷ map seat_of s.readers
  pub receivers : AllShow v.subscribers s.receivers
  pub packets : s.packets ≡ v.packets

-- it represents a state to which a script may lead
abbrev pub StandsSomewhere : Simulated → Type 0
StandsSomewhere v = (s : ScriptState) × RepresentsState v s × IsPlayed s

-- the line printed this, and the simulation represents the state after it
pub record Answered (old : ScriptState) (command : CommandContent) (before after : List LineContent) (new : Simulated) : Type 0 where
  pub lines : List LineContent
  pub state : ScriptState
  pub answers : Answers old command lines state
  pub printed : after ≡ before ++ lines
  pub shows : RepresentsState new state

-- whatever state the simulation represented
abbrev pub IsAnswered : Simulated → CommandContent → List Line → List Line → Simulated → Type 0
IsAnswered old command before after new = (s : ScriptState) → RepresentsState old s → IsPlayed s → Answered s command (line_contents before) (line_contents after) new

-- a command that means such an offer is answered
abbrev pub IsOffered : Simulated → ℕ → List ℕ → List Line → List Line → Simulated → Type 0
IsOffered old by message before after new =
    (command : CommandContent) → ((s t : ScriptState) (lines : List LineContent) → MayBeOffered s by message lines t → Answers s command lines t) → IsAnswered old command before after new
