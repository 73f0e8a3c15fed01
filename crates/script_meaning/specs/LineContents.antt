-- What a line of output says, without where its bytes lie in memory.
use Rattle.std.specs.Prelude.{ℕ, List, Option, None, Some, Ok, Err}
use Rattle.position.specs.declared.fault.GeometryError.{GeometryError}
use Rattle.shared_log.specs.declared.fault.LogError.{LogError}
use Rattle.publication.specs.declared.refusal.Refusal.{Refusal}
use Rattle.assembler.specs.declared.fault.AssemblyError.{AssemblyError}
use Rattle.receiver.specs.declared.receiver_core.Outcome.{Outcome}
use Rattle.sender.specs.declared.sender_core.SenderAnswer.{SenderAnswer}
use Rattle.receiver.specs.declared.poll_error.PollError.TheVariants as polls
use Rattle.receiver.specs.declared.positions.Positions as places
use Rattle.receiver.specs.Polling.{Answer}

pub data LineContent : Type 0 where
  Open : LineContent
  BadGeometry : (fault : GeometryError) → LineContent
  BadLog : (fault : LogError) → LineContent
  Done : LineContent
  Limit : (limit : ℕ) → LineContent
  Position : (end : ℕ) → LineContent
  Claimed : (start end : ℕ) → LineContent
  FrameData : (start flags : ℕ) (bytes : List ℕ) → LineContent
  FramePad : (start frame_length : ℕ) → LineContent
  Joined : (position : ℕ) → LineContent
  Left : LineContent
  Refused : (refusal : Refusal) → LineContent
  Packet : (number : ℕ) (bytes : List ℕ) → LineContent
  Nothing : LineContent
  OfReceiver : (outcome : Outcome) → LineContent
  OfSender : (answer : SenderAnswer) → LineContent
  Message : (bytes : List ℕ) → LineContent
  NoMessage : LineContent
  Unassembled : (fault : AssemblyError) → LineContent
  Positions : (least rebuilt high : ℕ) → LineContent
  Bad : LineContent
  Shares : (start : ℕ) (end : ℕ) (shares : List ℕ) → LineContent

-- the line of a poll
abbrev pub poll_line : Answer → LineContent
poll_line (Ok None) = NoMessage
poll_line (Ok (Some bytes)) = Message bytes
poll_line (Err polls.NoImage) = Bad
poll_line (Err (polls.Unassembled fault)) = Unassembled fault

-- the line of an image
abbrev pub positions_line : Option places.Positions → LineContent
positions_line None = Bad
positions_line (Some p) = Positions p.least p.rebuilt p.high_water
