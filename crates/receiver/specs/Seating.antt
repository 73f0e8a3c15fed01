-- A core and the one reader of its image, in one hand.
use Rattle.std.specs.Prelude.{◌≡◌, ℕ, ◌≤◌, ⊤, [], ◌∷◌, length, slice_index, Option, None, Some}
use Rattle.image.specs.Handles.{IsReaderOf, ReaderSeat, position_of}
use Rattle.image.specs.Meeting.{AreAlone, number_of}
use Rattle.image.specs.Rebuilding.{Inserting, join_of}
use Rattle.receiver.specs.Representing.{words_of}

-- the inserter has seen the reader where it stands; there is no reader without an image
abbrev pub AreSeated : Option Inserting → Option ReaderSeat → Type 0
AreSeated None None = ⊤
AreSeated None (Some r) = ⊥
AreSeated (Some i) None = ⊥
AreSeated (Some i) (Some r) = AreAlone (words_of i) i r

-- the reader is the image's, or that has it yet
abbrev pub MaySit : Option Inserting → Option ReaderSeat → Type 0
MaySit None None = ⊤
MaySit None (Some r) = ⊥
MaySit (Some i) None = i.undealt ≡ i.key.consumers
MaySit (Some i) (Some r) = IsReaderOf (words_of i) r × (number_of r ≡ 0)

-- where it stands; the join, if the image has it yet
abbrev pub place_of : Inserting → Option ReaderSeat → ℕ
place_of i None = join_of i
place_of i (Some r) = position_of r

-- the inserter sees the one consumer there, and had seen it no further
pub record SitsAt (i : Inserting) (place : ℕ) (j : Inserting) : Type 0 where
  pub after : j ≡ record i { seen = place ∷ []; undealt = j.undealt }
  pub one : length i.seen ≡ 1
  pub stood : slice_index i.seen 0 ≤ place

abbrev pub Sits : Option Inserting → Option ReaderSeat → Option Inserting → Type 0
Sits None r w = w ≡ None
Sits (Some i) r w = (j : Inserting) × (w ≡ Some j) × SitsAt i (place_of i r) j
