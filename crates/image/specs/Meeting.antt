-- An inserter and a reader that meet, and one that is in one hand with the one reader.
use Rattle.std.specs.Prelude.{◌≡◌, ◌↔◌, ℕ, ◌+◌, ◌*◌, ◌<◌, ◌≤◌, [], ◌∷◌, List, length, slice_index, slice_set}
use Rattle.position.specs.declared.head.FrameHead.{FrameHead}
use Rattle.position.specs.declared.head.FrameKind.TheVariants.{Data}
use Rattle.theory.specs.Placed.{Among, Placed, covered, end_of, payload_of}
use Rattle.theory.specs.Units.{IsContiguous}
use Rattle.image_rule.specs.declared.view.Frame.{Frame}
use Rattle.image_rule.specs.Frames as units
use Rattle.image_rule.specs.Frames.{placed_of}
use Rattle.image.specs.Kinds.{head_at}
use Rattle.image.specs.Handles.{ImageWords, IsReaderOf, ReaderSeat, known_by, misses_of, position_of}
use Rattle.image.specs.Rebuilding.{Inserting, IsInserterOf, join_of}

abbrev pub number_of : ReaderSeat → ℕ
number_of r = r.view.reading.number

-- the inserter has seen the reader where it stands, which is where it saw it before or further on, within no frame that was
-- stored and not above the contiguous end; and the reader knows the frames that were stored, and no others
pub record Meets (i : Inserting) (r : ReaderSeat) (j : Inserting) (q : ReaderSeat) : Type 0 where
  pub inserter : j ≡ record i { seen = slice_set i.seen (number_of r) (position_of r) }
  pub stood : slice_index i.seen (number_of r) ≤ position_of r
  pub edge : (s : Placed) → Among s i.stored → s.at < position_of r → end_of s ≤ position_of r
  pub behind : number_of r < i.key.consumers → (end : ℕ) → IsContiguous i.stored (join_of i) end → position_of r ≤ end
  pub reader : q ≡ record r { view = q.view }
  pub number : number_of q ≡ number_of r
  pub stands : q.view.reading.unit ≡ r.view.reading.unit
  pub misses : misses_of q ≡ misses_of r
  pub keeps : (s : Placed) → Among s (known_by r) → Among s (known_by q)
  pub knows : (s : Placed) → Among s (known_by q) ↔ Among s i.stored
  pub covers : (f : Frame) → units.Among f r.view.reading.known → 32 * f.units ≡ covered (placed_of f)

-- the inserter of an image and its one reader, which the inserter saw where it stands
pub record AreAlone (image : ImageWords) (i : Inserting) (r : ReaderSeat) : Type 0 where
  pub inserter : IsInserterOf image i
  pub reader : IsReaderOf image r
  pub one : i.key.consumers ≡ 1
  pub number : number_of r ≡ 0
  pub met : i.seen ≡ position_of r ∷ []

-- of a DATA frame, whose payload has at most 65,472 bytes
abbrev pub IsShort : FrameHead → Type 0
IsShort head = head.kind ≡ Data → (32 ≤ head.frame_length) × (head.frame_length ≤ 65504)

-- the reader stands at the contiguous end, where it has looked once more, and nothing else has changed
pub record StandsAtEnd (i : Inserting) (r : ReaderSeat) (before : List ℕ) (j : Inserting) (q : ReaderSeat) (after : List ℕ) : Type 0 where
  pub ends : IsContiguous i.stored (join_of i) (position_of r)
  pub inserter : j ≡ i
  pub stands : position_of q ≡ position_of r
  pub misses : misses_of q ≡ misses_of r + 1
  pub untouched : after ≡ before

-- a frame was stored where it stood, which the head shows, and these bytes are its payload; it stands where that ends: there the
-- inserter saw it, and else nothing has changed
pub record PassesFrame (i : Inserting) (r : ReaderSeat) (head : FrameHead) (payload : List ℕ) (j : Inserting) (q : ReaderSeat) : Type 0 where
  pub frame : Placed
  pub among : Among frame i.stored
  pub here : frame.at ≡ position_of r
  pub head_is : head ≡ head_at frame.at frame.frame
  pub payload_is : payload ≡ payload_of frame.frame
  pub small : length payload ≤ 65472
  pub short : IsShort head
  pub ends : position_of q ≡ end_of frame
  pub inserter : j ≡ record i { seen = position_of q ∷ [] }
  pub misses : misses_of q ≡ misses_of r
