-- Which receivers the code of a receiver shows, and what a call makes of each.
-- A core's image is told by its inserter: all frames that were ever stored, and where it saw the consumers last. A core shows
-- the receivers of its numbers whose image stored these frames, and whose consumers stand where it saw them. Consumers may go
-- forward between two of its calls. What a call makes of a receiver is therefore promised for those whose consumers stand
-- where this very call saw them (`BecomesSeen`).
use Rattle.std.specs.Prelude.{◌≡◌, ℕ, suc, ◌<◌, ◌≤◌, ℤ, ⊤, List, [], ◌∷◌, map, max, length, slice_get, slice_index, slice_set, Option, None, Some, ◌⊎◌}
use Rattle.std.specs.List.{AllByRecursion}
use Rattle.std.specs.Option.{ForSome}
use Rattle.position.specs.declared.head.FrameHead.{FrameHead}
use Rattle.theory.specs.Placed.{Among, Frame, Placed, end_of, payload_of}
use Rattle.theory.specs.Units.{IsContiguous}
use Rattle.theory.specs.Consumer.{Consumer, least_of}
use Rattle.theory.specs.Image.{after_heartbeat}
use Rattle.theory.specs.Control.{named_by}
use Rattle.theory.specs.Timing.{LastStatus, Watch}
use Rattle.theory.specs.Wire.{DATA, HEARTBEAT, Header, IsHeader, NAK, PAD, SETUP, SM, SpellsDatagram, Wire}
use Rattle.image.specs.Kinds.{head_at}
use Rattle.image.specs.Seen.{IsCount, least}
use Rattle.image.specs.Stored.{meant}
use Rattle.image.specs.declared.answer.Insert.{Insert}
use Rattle.image.specs.Handles.{ImageWords}
use Rattle.image.specs.Rebuilding.{Inserting, geometry_of, join_of}
use Rattle.receiver.specs.declared.receiver_core.LastSent.{LastSent}
use Rattle.receiver.specs.declared.receiver_core.Outcome.{Outcome}
use Rattle.receiver.specs.Receiving.{Meets, Opened, Receiver, RefusesDatagram, answer_at, at_moment, given_at}

-- what a contract sees of a receiver's core
pub record Core : Type 0 where
  pub session : ℤ
  pub stream : ℤ
  pub window : ℕ
  pub id : ℤ
  pub consumers : ℕ
  pub image : Option Inserting
  pub unmet : Option Header
  pub told : Option LastStatus
  pub watch : Watch
  pub clock : ℕ
  pub faults : List ℕ

abbrev pub last_status_of : LastSent → LastStatus
last_status_of t = record { now = t.moment; position = t.position }

-- the number of its consumers is legal, its image is of its window and has so many, and the header that it keeps can be one
pub record IsCore (v : Core) : Type 0 where
  pub count : IsCount v.consumers
  pub width : ForSome v.image (λ (i : Inserting). i.window ≡ v.window)
  pub seats : ForSome v.image (λ (i : Inserting). (i.key.consumers ≡ v.consumers) × (length i.seen ≡ v.consumers))
  pub unmet : ForSome v.unmet IsHeader
  pub faults : length v.faults ≡ 8

-- the core's numbers, with this image; the core knows of no messages, and so not of the greatest
abbrev pub with_image : Core → ℕ → Option Opened → Receiver
with_image v greatest image = record {
  session = v.session;
  stream = v.stream;
  window = v.window;
  id = v.id;
  consumers = v.consumers;
  greatest = greatest;
  image = image;
  unmet = v.unmet;
  told = v.told;
  watch = v.watch;
  clock = v.clock;
  faults = v.faults;
}

-- an image of the definitions that the inserter shows
pub record RepresentsImage (v : Inserting) (o : Opened) : Type 0 where
  pub geometry : geometry_of v ≡ o.geometry
  pub join : join_of v ≡ o.image.join
  pub window : v.window ≡ o.image.window
  pub high : v.high ≡ o.image.high
  pub stored : v.stored ≡ o.image.stored
  pub consumers : v.seen ≡ map (λ c. c.at) o.image.consumers

abbrev pub RepresentsOpened : Option Inserting → Option Opened → Type 0
RepresentsOpened None None = ⊤
RepresentsOpened None (Some o) = ⊥
RepresentsOpened (Some v) None = ⊥
RepresentsOpened (Some v) (Some o) = RepresentsImage v o

pub record Represents (v : Core) (r : Receiver) : Type 0 where
  pub numbers : r ≡ with_image v r.greatest r.image
  pub image : RepresentsOpened v.image r.image

-- whatever receiver the old state shows becomes one by this step that the new state shows
abbrev pub Becomes : Core → Core → (Receiver → Receiver → Type 0) → Type 0
Becomes old new Step = (r : Receiver) → Represents old r → (s : Receiver) × Step r s × Represents new s

-- ---- consumers that go forward

-- a later state of an inserter, which may have seen the consumers further on
pub record SeesOn (i j : Inserting) : Type 0 where
  pub of : j.of ≡ i.of
  pub key : j.key ≡ i.key
  pub window : j.window ≡ i.window
  pub undealt : j.undealt ≡ i.undealt
  pub floor : i.floor ≤ j.floor
  pub all : length j.seen ≡ length i.seen
  pub forward : (n : ℕ) → slice_index i.seen n ≤ slice_index j.seen n

-- an image that has opened since: it has its readers yet, and no consumer was seen below the join
pub record IsOpen (j : Inserting) : Type 0 where
  pub undealt : j.undealt ≡ j.key.consumers
  pub from : AllByRecursion (λ p. join_of j ≤ p) j.seen

abbrev pub ImageSeesOn : Option Inserting → Option Inserting → Type 0
ImageSeesOn None None = ⊤
ImageSeesOn None (Some j) = IsOpen j
ImageSeesOn (Some i) None = ⊥
ImageSeesOn (Some i) (Some j) = SeesOn i j

-- it has looked once at each consumer, and its floor is the least position at which it saw one
pub record LooksOnce (i j : Inserting) : Type 0 where
  pub looked : (n : ℕ) → n < i.key.consumers → slice_index j.looks n ≡ suc (slice_index i.looks n)
  pub floor : j.floor ≡ least j.seen

-- the same, if there was an image
abbrev pub ImageLooks : Option Inserting → Option Inserting → Type 0
ImageLooks None w = ⊤
ImageLooks (Some i) None = ⊥
ImageLooks (Some i) (Some j) = LooksOnce i j

-- the frames of its stream whose answer rests on where the consumers stand
abbrev pub IsForImage : Core → Wire → Type 0
IsForImage v (DATA h flags payload) = (h.session ≡ v.session) × (h.stream ≡ v.stream)
IsForImage v (PAD h n) = (h.session ≡ v.session) × (h.stream ≡ v.stream)
IsForImage v (HEARTBEAT h) = (h.session ≡ v.session) × (h.stream ≡ v.stream)
IsForImage v (NAK f) = ⊥
IsForImage v (SM asks f) = ⊥
IsForImage v (SETUP f) = ⊥

-- an image whose consumers stand where a later state of it saw them
abbrev pub image_seen_as : Option Inserting → Option Inserting → Option Inserting
image_seen_as None w = None
image_seen_as (Some i) None = Some i
image_seen_as (Some i) (Some j) = Some (record i { seen = j.seen })

abbrev pub core_seen_as : Core → Core → Core
core_seen_as v w = record v { image = image_seen_as v.image w.image }

-- a call that looks at the consumers once: each was seen where it was before, or further on; and whatever receiver the old state
-- shows, with its consumers where this call saw them, becomes one by this step that the new state shows
abbrev pub BecomesSeen : Core → Core → (Receiver → Receiver → Type 0) → Type 0
BecomesSeen old new Step = ImageSeesOn old.image new.image × Becomes (core_seen_as old new) new Step

-- the frames of a datagram one after the other; before each the consumers may have gone forward, and for each whose answer
-- rests on where they stand it looks at them anew
abbrev pub MeetsEach : Core → List Wire → List Outcome → Core → Type 0
MeetsEach old [] outs new = (outs ≡ []) × (new ≡ old)
MeetsEach old (w ∷ ws) outs new =
    (out : Outcome) × (mid : Core) × (rest : List Outcome) × BecomesSeen old mid (λ r s. Meets r w out s) × (IsForImage old w → ImageLooks old.image mid.image) × (outs ≡ out ∷ rest) × MeetsEach mid ws rest new

-- a datagram at a moment: each of its frames, or its first fault
abbrev pub HearsDatagram : Core → ℕ → List ℕ → List Outcome → Core → Type 0
HearsDatagram old now bytes outs new =
    ((frames : List Wire) × SpellsDatagram frames bytes × MeetsEach (record old { clock = max old.clock now }) frames outs new)
    ⊎ BecomesSeen old new (λ r s. RefusesDatagram (at_moment r now) bytes outs s)

-- ---- of an image alone

-- which image it is
abbrev pub words_of : Inserting → ImageWords
words_of i = record { of = i.of; key = i.key }

-- the answer to a frame with this header, and what it has then, where the consumers stand as the call saw them
abbrev pub Inserts : Inserting → Header → Frame → Insert → Inserting → Type 0
Inserts old h f a new = (o : Opened) → RepresentsImage (record old { seen = new.seen }) o → (meant a ≡ answer_at o (named_by o.geometry h) f) × RepresentsImage new (given_at o (named_by o.geometry h) f)

abbrev pub beaten_at : Opened → Header → Opened
beaten_at o h = record o { image = after_heartbeat o.geometry o.image (least_of o.image.consumers) (named_by o.geometry h) }

abbrev pub HearsBeat : Inserting → Header → Inserting → Type 0
HearsBeat old h new = (o : Opened) → RepresentsImage (record old { seen = new.seen }) o → RepresentsImage new (beaten_at o h)

-- ---- a consumer reads the frame at its position, and moves past it

abbrev pub with_reader : Opened → ℕ → Consumer → Opened
with_reader o k d = record o { image = record o.image { consumers = slice_set o.image.consumers k d } }

-- it stands at the contiguous end
pub record IsAtEnd (o : Opened) (k : ℕ) : Type 0 where
  pub consumer : Consumer
  pub which : slice_get o.image.consumers k ≡ Some consumer
  pub end : IsContiguous o.image.stored o.image.join consumer.at

-- the frame at its position is shown by the head, and these bytes are its payload; and with any consumer in its place that stands at
-- the frame's end the image is shown then
pub record ReadsPast (o : Opened) (k : ℕ) (head : FrameHead) (payload : List ℕ) (ShowsThen : Opened → Type 0) : Type 0 where
  pub consumer : Consumer
  pub which : slice_get o.image.consumers k ≡ Some consumer
  pub frame : Placed
  pub among : Among frame o.image.stored
  pub here : frame.at ≡ consumer.at
  pub head_is : head ≡ head_at frame.at frame.frame
  pub payload_is : payload ≡ payload_of frame.frame
  pub shown : (d : Consumer) → d.at ≡ end_of frame → ShowsThen (with_reader o k d)

-- the same of a receiver
abbrev pub HasNoFrame : Option Opened → ℕ → Type 0
HasNoFrame None k = ⊤
HasNoFrame (Some o) k = IsAtEnd o k

abbrev pub PassesFrame : Option Opened → Receiver → ℕ → FrameHead → List ℕ → Core → Type 0
PassesFrame None r k head payload new = ⊥
PassesFrame (Some o) r k head payload new = ReadsPast o k head payload (λ p. Represents new (record r { image = Some p }))

-- where the consumer with this number stands
abbrev pub place_in : Option Inserting → ℕ → ℕ
place_in None k = 0
place_in (Some i) k = slice_index i.seen k
