-- What a poll reads of an image, and what it answers.
-- A poll reads the frames that are there from the consumer's position on, one after the other. It stops behind the
-- first that completes a message, or behind a DATA frame that the assembler refuses, else at the contiguous end.
-- Behind a refusal the polls go on, and where they may stop is still said (`StopsAt`), but not which message they
-- give (`PollsOn`).
use Rattle.std.specs.Prelude.{◌≡◌, ◌⊎◌, ◌↔◌, ℕ, ⊤, true, false, Option, None, Some, Result, Ok, Err, List, [], ◌∷◌, ◌++◌}
use Rattle.theory.specs.Placed.{AllAmong, Chain, Placed, is_padding}
use Rattle.theory.specs.Units.{IsContiguous}
use Rattle.theory.specs.Consumer.{Consumer, least_of, moved, passed_by}
use Rattle.theory.specs.Image.{Image}
use Rattle.assembler.specs.Hearing.{AsksMemory, IsTooLong, assembled}
use Rattle.assembler.specs.declared.fault.AssemblyError.{AssemblyError}
use Rattle.assembler.specs.declared.fault.AssemblyError.TheVariants.{Memory, TooLong}
use Rattle.image.specs.Rebuilding.{Inserting, join_of}
use Rattle.receiver.specs.declared.poll_error.PollError.{PollError}
use Rattle.receiver.specs.declared.poll_error.PollError.TheVariants.{NoImage, Unassembled}
use Rattle.receiver.specs.declared.positions.Positions.{Positions}
use Rattle.receiver.specs.Receiving.{Opened, Receiver}

-- the consumer reads these frames, one after the other, from its position on
pub record ReadsFrames (i : Image) (c : Consumer) (frames : List Placed) (to : ℕ) : Type 0 where
  pub chain : Chain c.at to frames
  pub among : AllAmong i.stored frames

-- and its assembler hears each
abbrev pub moved_all : Consumer → List Placed → Consumer
moved_all c [] = c
moved_all c (s ∷ ss) = moved_all (moved c s) ss

-- or it is lost already
abbrev pub passed_all : Consumer → List Placed → Consumer
passed_all c [] = c
passed_all c (s ∷ ss) = passed_all (passed_by c s) ss

-- the messages that its assembler gives of these frames
abbrev pub gives : Consumer → List Placed → List (List ℕ)
gives c frames = (assembled c.assembly.begun frames).given

-- with none of these frames, one after the other, the message that is begun is longer than the greatest
abbrev pub StaysShort : ℕ → Consumer → List Placed → Type 0
StaysShort greatest c [] = ⊤
StaysShort greatest c (s ∷ ss) = (IsTooLong greatest c.assembly.begun s.frame → ⊥) × StaysShort greatest (moved c s) ss

-- the frames up to the first that completes a message
pub record PollsMessage (greatest : ℕ) (i : Image) (c : Consumer) (message : List ℕ) (d : Consumer) : Type 0 where
  pub earlier : List Placed
  pub last : Placed
  pub reads : ReadsFrames i c (earlier ++ last ∷ []) d.at
  pub nothing : gives c earlier ≡ []
  pub message_given : gives c (earlier ++ last ∷ []) ≡ message ∷ []
  pub short : StaysShort greatest c (earlier ++ last ∷ [])
  pub after : d ≡ moved_all c (earlier ++ last ∷ [])

-- all frames that are there, none of which completes a message
pub record PollsNothing (greatest : ℕ) (i : Image) (c d : Consumer) : Type 0 where
  pub frames : List Placed
  pub reads : ReadsFrames i c frames d.at
  pub nothing : gives c frames ≡ []
  pub short : StaysShort greatest c frames
  pub no_more : IsContiguous i.stored i.join d.at
  pub after : d ≡ moved_all c frames

-- the frames up to a DATA frame that the assembler refuses: as too long exactly where the message is longer than the greatest with it, else for want of memory
pub record PollsFault (greatest : ℕ) (i : Image) (c : Consumer) (fault : AssemblyError) (d : Consumer) : Type 0 where
  pub earlier : List Placed
  pub last : Placed
  pub reads : ReadsFrames i c (earlier ++ last ∷ []) d.at
  pub nothing : gives c earlier ≡ []
  pub not_padding : is_padding last.frame ≡ false
  pub short : StaysShort greatest c earlier
  pub named : (fault ≡ TooLong) ↔ IsTooLong greatest (moved_all c earlier).assembly.begun last.frame
  pub asked : fault ≡ Memory → AsksMemory (moved_all c earlier).assembly.begun last.frame
  pub after : d ≡ passed_by (moved_all c earlier) last

-- the last of these frames is a message's
abbrev pub EndInData : List Placed → Type 0
EndInData frames = (earlier : List Placed) × (last : Placed) × (frames ≡ earlier ++ last ∷ []) × (is_padding last.frame ≡ false)

-- what a poll answers: a whole message, or nothing, or why there is none
abbrev pub Answer : Type 0
Answer = Result (Option (List ℕ)) PollError

-- where a poll may stop that answers this
abbrev pub StopsAt : Image → List Placed → Answer → ℕ → Type 0
StopsAt i frames (Ok (Some bytes)) q = EndInData frames
StopsAt i frames (Ok None) q = IsContiguous i.stored i.join q
StopsAt i frames (Err (Unassembled fault)) q = EndInData frames
StopsAt i frames (Err NoImage) q = ⊥

-- a consumer whose assembler has refused a frame goes on; of which message it gives then, and where, nothing is said
pub record PollsOn (i : Image) (c : Consumer) (answer : Answer) (d : Consumer) : Type 0 where
  pub frames : List Placed
  pub reads : ReadsFrames i c frames d.at
  pub stops : StopsAt i frames answer d.at
  pub after : d ≡ passed_all c frames

-- a consumer that has lost nothing
abbrev pub PollsWhole : ℕ → Image → Consumer → Answer → Consumer → Type 0
PollsWhole greatest i c (Ok (Some bytes)) d = PollsMessage greatest i c bytes d
PollsWhole greatest i c (Ok None) d = PollsNothing greatest i c d
PollsWhole greatest i c (Err (Unassembled fault)) d = PollsFault greatest i c fault d
PollsWhole greatest i c (Err NoImage) d = ⊥

abbrev pub PollsImage : ℕ → Image → Consumer → Answer → Consumer → Type 0
PollsImage greatest i c answer d = ((c.lost ≡ false) × PollsWhole greatest i c answer d) ⊎ ((c.lost ≡ true) × PollsOn i c answer d)

-- ---- by a receiver with one consumer

abbrev pub with_only_consumer : Opened → Consumer → Opened
with_only_consumer o d = record o { image = record o.image { consumers = d ∷ [] } }

abbrev pub PollsOf : Option Opened → Receiver → Answer → Receiver → Type 0
PollsOf None r answer s = (answer ≡ Err NoImage) × (s ≡ r)
PollsOf (Some o) r answer s =
    (c : Consumer) × (d : Consumer) × (o.image.consumers ≡ c ∷ []) × PollsImage r.greatest o.image c answer d × (s ≡ record r { image = Some (with_only_consumer o d) })

abbrev pub Polls : Receiver → Answer → Receiver → Type 0
Polls r answer s = PollsOf r.image r answer s

-- the positions that an image tells
abbrev pub TellsOf : Option Opened → Option Positions → Type 0
TellsOf None told = told ≡ None
TellsOf (Some o) told = (q : ℕ) × IsContiguous o.image.stored o.image.join q × (told ≡ Some (record { least = least_of o.image.consumers; rebuilt = q; high_water = o.image.high }))

abbrev pub TellsPositions : Receiver → Option Positions → Type 0
TellsPositions r told = TellsOf r.image told

-- those that its inserter tells: the least is the least position at which it saw a consumer when it looked last
abbrev pub TellsImage : Option Inserting → Option Positions → Type 0
TellsImage None told = told ≡ None
TellsImage (Some i) told = (q : ℕ) × IsContiguous i.stored (join_of i) q × (told ≡ Some (record { least = i.floor; rebuilt = q; high_water = i.high }))
