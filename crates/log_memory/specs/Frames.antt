-- Frames in memory: read by one who has a part, or taken back.
use Rattle.std.specs.Prelude.{◌≡◌, ℕ, suc, max, ◌-◌, ◌+◌, ◌*◌, ◌/◌, ◌%◌, ◌^◌, ◌<◌, ◌≤◌, List, [], ◌∷◌, drop, length, take}
use Rattle.std.specs.List.{AllByRecursion}
use Rattle.atomic_table.specs.Table.{rest}
use Rattle.theory.specs.Bytes.{Identity}
use Rattle.publication.specs.declared.pass.FrameWords.{FrameWords}
use Rattle.publication.specs.declared.pass.Reading.{Reading}
use Rattle.position.specs.Contents.{bytes_in}
use Rattle.region.specs.declared.access.Access.{Access}
use Rattle.region.specs.declared.access.WriteAccess.{WriteAccess}
use Rattle.publication.specs.Steps.{term_of}
use Rattle.log_rule.specs.Claims.Memory.{IsCommittedFrame}
use Rattle.log_rule.specs.Keepings.{least_there}
use Rattle.log_rule.specs.Readings.{end_of}
use Rattle.log_memory.specs.declared.view.Site.{Site}
use Rattle.log_memory.specs.Places.{slot_of}
use Rattle.log_memory.specs.Rule.{IsPart, ring}
use Rattle.log_memory.specs.Rights.{IsAnything}
use Rattle.log_memory.specs.Steps.{Carries, MayGive, Mine}

-- the first slot that a seat carries is a consumer's, with its part of a frame
pub record HasPart (t : Site) (f : FrameWords) (number : ℕ) (mine : List (ℕ × Access)) : Type 0 where
  pub access : Access
  pub round : ℕ
  pub book : ℕ
  pub is : IsPart t (slot_of (ring t) f.start 0) f.words round book access
  pub there : mine ≡ (slot_of (ring t) f.start number, access) ∷ rest mine

-- it is a part of the frame that begins at a position, with so many bytes behind its header
pub record HasPartAt (t : Site) (start number count : ℕ) (mine : List (ℕ × Access)) : Type 0 where
  pub frame : FrameWords
  pub here : frame.start ≡ start
  pub part : HasPart t frame number mine
  pub inside : 32 + count ≤ 8 * length frame.words

-- so many bytes behind the header of whichever frame it is a part of
abbrev pub CopiesPart : Site → ℕ → ℕ → ℕ → List (ℕ × Access) → List ℕ → Type 0
CopiesPart t start number count mine bytes = (f : FrameWords) → f.start ≡ start → HasPart t f number mine → bytes ≡ take count (drop 32 (bytes_in f.words))

-- the part of a frame that one of the seat's consumers has
pub record MayGiveBack (t : Site) (m : Mine) : Type 0 where
  pub reading : Reading
  pub frame : FrameWords
  pub may : MayGive t reading frame m

-- the keeper took the committed frame that begins where memory was taken back: its slots, and the right to write its bytes
pub record TakesFrame (t : Site) (m : Mine) (bytes : ℕ) (run : WriteAccess) (m' : Mine) : Type 0 where
  pub frame : FrameWords
  pub here : frame.start ≡ m.0.room.freed
  pub done : IsCommittedFrame t.key.identity frame
  pub long : bytes ≡ 8 * length frame.words
  pub whole : bytes % 32 ≡ 0
  pub some : 32 ≤ bytes
  pub low : bytes ≤ 2 ^ 32
  pub identity : run.identity ≡ t.region.identity
  pub at : run.at ≡ 4 * slot_of (ring t) m.0.room.freed 0
  pub items : length run.items ≡ bytes
  pub row : Carries IsAnything (slot_of (ring t) m.0.room.freed 0) (8 * (bytes / 32)) [] m'.1
  pub part : m'.0.part ≡ m.0.part
  pub room : m'.0.room ≡ record { freed = m.0.room.freed; out = bytes }
  pub parked : m'.0.parked ≡ m.0.parked
  pub rests : m'.0.view ≡ record m.0.view { steps = suc m.0.view.steps }

-- the keeper has so many bytes out, from there on
pub record IsOutAt (freed bytes : ℕ) (m : Mine) : Type 0 where
  pub keeper : m.0.view.pass.keeping.right ≡ 1
  pub freed_is : m.0.room.freed ≡ freed
  pub out : m.0.room.out ≡ bytes
  pub whole : bytes % 32 ≡ 0
  pub some : 32 ≤ bytes

-- they are room
pub record GivesFrame (m : Mine) (bytes : ℕ) (m' : Mine) : Type 0 where
  pub carried : m'.1 ≡ []
  pub part : m'.0.part ≡ m.0.part
  pub room : m'.0.room ≡ record { freed = m.0.room.freed + bytes; out = 0 }
  pub parked : m'.0.parked ≡ m.0.parked
  pub rests : m'.0.view ≡ record m.0.view { steps = suc m.0.view.steps }

-- the memory of the committed frame that begins where memory was taken back is room, by two steps
pub record FreesFrame (t : Site) (m : Mine) (bytes : ℕ) (m' : Mine) : Type 0 where
  pub frame : FrameWords
  pub here : frame.start ≡ m.0.room.freed
  pub done : IsCommittedFrame t.key.identity frame
  pub long : bytes ≡ 8 * length frame.words
  pub some : 32 ≤ bytes
  pub low : bytes ≤ 2 ^ 32
  pub carried : m'.1 ≡ []
  pub part : m'.0.part ≡ m.0.part
  pub room : m'.0.room ≡ record { freed = m.0.room.freed + bytes; out = 0 }
  pub parked : m'.0.parked ≡ m.0.parked
  pub rests : m'.0.view ≡ record m.0.view { steps = suc (suc m.0.view.steps) }

-- the keeper may take all back that begins below a position, which is a term or more below each consumer that is there
pub record MayFreeTo (end : ℕ) (m : Mine) : Type 0 where
  pub keeper : m.0.view.pass.keeping.right ≡ 1
  pub idle : m.0.room.out ≡ 0
  pub below : end ≤ max m.0.view.pass.start (least_there m.0.view.pass.keeping.there m.0.view.pass.keeping.positions - term_of m.0.view.pass)
  pub empty : m.1 ≡ []

-- committed frames that lie one behind the other, from a position to another
abbrev pub Follow : Identity → ℕ → List FrameWords → ℕ → Type 0
Follow i p [] q = p ≡ q
Follow i p (f ∷ fs) q = (f.start ≡ p) × IsCommittedFrame i f × Follow i (end_of f) fs q

-- what begins below a position is room, as far as that: so many frames, by two steps each; beside that, and its steps, the keeper is as it was
pub record FreesTo (i : Identity) (end freed : ℕ) (m m' : Mine) : Type 0 where
  pub reached : end ≤ freed
  pub frames : List FrameWords
  pub follow : Follow i m.0.room.freed frames freed
  pub below : AllByRecursion (λ f. f.start < end) frames
  pub carried : m'.1 ≡ []
  pub part : m'.0.part ≡ m.0.part
  pub room : m'.0.room ≡ record { freed = freed; out = 0 }
  pub parked : m'.0.parked ≡ m.0.parked
  pub rests : m'.0.view ≡ record m.0.view { steps = m.0.view.steps + 2 * length frames }
