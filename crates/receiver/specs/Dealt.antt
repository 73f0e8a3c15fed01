-- The readers of an image, which are given away once.
use Rattle.std.specs.Prelude.{◌≡◌, ℕ, ◌+◌, ◌≤◌, ⊤, List, [], ◌∷◌, length, Option, None, Some, vec_capacity}
use Rattle.std.specs.Arc.{arc_value}
use Rattle.image.specs.Handles.{ImageWords, IsReaderOf, ReaderSeat, position_of}
use Rattle.image.specs.Meeting.{Meets, number_of}
use Rattle.image.specs.Rebuilding.{Inserting, IsInserterOf, join_of}
use Rattle.receiver.specs.Representing.{words_of}
use Rattle.receiver.specs.declared.readers.Readers.{Readers}

-- readers of this image that stand at the join; the last one has this number, and each other one the next
abbrev pub AreDealt : ImageWords → ℕ → ℕ → List ReaderSeat → Type 0
AreDealt image join k [] = ⊤
AreDealt image join k (r ∷ rs) = IsReaderOf image r × (number_of r ≡ k + length rs) × (position_of r ≡ join) × AreDealt image join k rs

-- ---- what always holds of an image that a SETUP opened

-- room for all readers as long as they aren't given away
abbrev pub HasRoom : Inserting → Option Readers → Type 0
HasRoom i None = i.undealt ≡ 0
HasRoom i (Some r) = (i.undealt ≡ i.key.consumers) × (r.readers.items ≡ []) × (i.key.consumers ≤ vec_capacity r.readers) × (arc_value r.image ≡ words_of i)

pub record IsOpenImage (image : ImageWords) (i : Inserting) (room : Option Readers) : Type 0 where
  pub fits : IsInserterOf image i
  pub few : i.key.consumers ≤ 8
  pub kept : HasRoom i room

-- ---- what is given away

-- all readers of the image, which had them all
pub record TakesReaders (i : Inserting) (r : Readers) (j : Inserting) : Type 0 where
  pub whole : i.undealt ≡ i.key.consumers
  pub left : j ≡ record i { undealt = 0 }
  pub image : arc_value r.image ≡ words_of i
  pub readers : AreDealt (words_of i) (join_of i) 0 r.readers.items
  pub count : length r.readers.items ≡ i.key.consumers

abbrev pub ImageTakes : Option Inserting → Readers → Option Inserting → Type 0
ImageTakes None r w = ⊥
ImageTakes (Some i) r w = (j : Inserting) × (w ≡ Some j) × TakesReaders i r j

-- no image, or it has given them away
abbrev pub HasNoReaders : Option Inserting → Type 0
HasNoReaders None = ⊤
HasNoReaders (Some i) = i.undealt ≡ 0

-- ---- one of them learns

-- it is of this image
abbrev pub MayLearn : Option Inserting → ReaderSeat → Type 0
MayLearn None r = ⊥
MayLearn (Some i) r = IsReaderOf (words_of i) r

abbrev pub Learns : Option Inserting → ReaderSeat → Option Inserting → ReaderSeat → Type 0
Learns None r w q = ⊥
Learns (Some i) r w q = (j : Inserting) × (w ≡ Some j) × Meets i r j q
