-- Which receivers a subscriber shows, and what it makes of a frame.
use Rattle.std.specs.Prelude.{◌≡◌, ◌↔◌, ℕ, false, List, [], ◌∷◌, Option, None, Some, Result, Ok, Err, slice_get}
use Rattle.theory.specs.Placed.{Among, Placed, end_of, is_padding}
use Rattle.theory.specs.Consumer.{Consumer}
use Rattle.assembler.specs.Assembling.{Assembling}
use Rattle.assembler.specs.Hearing.{AsksMemory, IsTooLong, heard_of}
use Rattle.assembler.specs.declared.fault.AssemblyError.{AssemblyError}
use Rattle.assembler.specs.declared.fault.AssemblyError.TheVariants.{Memory, TooLong}
use Rattle.assembler.specs.declared.assembler.Message.{Message}
use Rattle.receiver.specs.declared.poll_error.PollError.{PollError}
use Rattle.receiver.specs.Polling.{Answer, ReadsFrames, StaysShort, gives, moved_all, with_only_consumer}
use Rattle.receiver.specs.Receiving.{Opened, Receiver}
use Rattle.receiver.specs.Representing.{Core, Represents, with_reader}

-- what a poll's answer says, without where the message lies in memory
abbrev pub answer_of : {A : Type 0} → Result (Option (Message A)) PollError → Answer
answer_of (Ok None) = Ok None
answer_of (Ok (Some message)) = Ok (Some message.bytes.items)
answer_of (Err fault) = Err fault

-- what a contract sees of a subscriber
pub record Subscribing : Type 0 where
  pub core : Core
  pub assembler : Assembling

-- the image has one consumer, and what its assembler has begun is begun, unless that has missed a frame
abbrev pub AssemblesFor : Option (List ℕ) → Option Opened → Type 0
AssemblesFor begun None = begun ≡ None
AssemblesFor begun (Some o) = (c : Consumer) × (o.image.consumers ≡ c ∷ []) × (c.lost ≡ false → begun ≡ c.assembly.begun)

pub record RepresentsSubscriber (v : Subscribing) (r : Receiver) : Type 0 where
  pub core : Represents v.core r
  pub one : r.consumers ≡ 1
  pub begun : AssemblesFor v.assembler.begun r.image
  pub greatest : v.assembler.greatest ≡ r.greatest

-- whatever receiver the old state shows becomes one by this step that the new state shows
abbrev pub SubscriberBecomes : Subscribing → Subscribing → (Receiver → Receiver → Type 0) → Type 0
SubscriberBecomes old new Step = (r : Receiver) → RepresentsSubscriber old r → (s : Receiver) × Step r s × RepresentsSubscriber new s

-- the frame at the consumer's position is passed
pub record PassesOn (o : Opened) (r : Receiver) (s : Placed) (new : Core) : Type 0 where
  pub consumer : Consumer
  pub which : slice_get o.image.consumers 0 ≡ Some consumer
  pub among : Among s o.image.stored
  pub here : s.at ≡ consumer.at
  pub shown : (d : Consumer) → d.at ≡ end_of s → Represents new (record r { image = Some (with_reader o 0 d) })

-- and heard
abbrev pub HearsFrame : Option Opened → Receiver → Assembling → Option (List ℕ) → Subscribing → Type 0
HearsFrame None r before message new = ⊥
HearsFrame (Some o) r before message new =
    (s : Placed) × PassesOn o r s new.core × (new.assembler ≡ record before { begun = (heard_of before.begun s.frame).begun }) × (message ≡ (heard_of before.begun s.frame).message)
    × (IsTooLong before.greatest before.begun s.frame → ⊥)

-- or refused; nothing is begun then
abbrev pub RefusesFrame : Option Opened → Receiver → Assembling → AssemblyError → Subscribing → Type 0
RefusesFrame None r before fault new = ⊥
RefusesFrame (Some o) r before fault new =
    (s : Placed) × PassesOn o r s new.core × (new.assembler ≡ record before { begun = None }) × (is_padding s.frame ≡ false) × ((fault ≡ TooLong) ↔ IsTooLong before.greatest before.begun s.frame) × (fault ≡ Memory → AsksMemory before.begun s.frame)

-- ---- in the course of a poll

-- of a receiver with an image: these frames were read, and no message came of them
pub record HasReadOn (o : Opened) (r : Receiver) (v : Subscribing) : Type 0 where
  pub consumer : Consumer
  pub one : o.image.consumers ≡ consumer ∷ []
  pub frames : List Placed
  pub at : ℕ
  pub reads : ReadsFrames o.image consumer frames at
  pub shown : (d : Consumer) → d.at ≡ at → Represents v.core (record r { image = Some (with_only_consumer o d) })
  pub nothing : consumer.lost ≡ false → gives consumer frames ≡ []
  pub short : consumer.lost ≡ false → StaysShort r.greatest consumer frames
  pub begun : consumer.lost ≡ false → v.assembler.begun ≡ (moved_all consumer frames).assembly.begun
  pub greatest : v.assembler.greatest ≡ r.greatest

abbrev pub IsPolling : Option Opened → Receiver → Subscribing → Type 0
IsPolling None r v = ⊥
IsPolling (Some o) r v = HasReadOn o r v
