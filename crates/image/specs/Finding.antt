-- What a reader finds by itself, told by positions of the stream.
use Rattle.std.specs.Prelude.{◌≡◌, ℕ, ◌+◌, ◌*◌, ◌≤◌, List, length}
use Rattle.block.specs.Bytes.{with_front}
use Rattle.position.specs.declared.head.FrameHead.{FrameHead}
use Rattle.theory.specs.Placed.{Among, Placed, end_of, frame_length, payload_of}
use Rattle.image.specs.Kinds.{head_at}
use Rattle.image.specs.Handles.{ReaderSeat, known_by, misses_of, position_of}
use Rattle.image.specs.Meeting.{IsShort, number_of}
use Rattle.image.specs.Reading.{Advances, ReadsFrame, ReadsNone, ShowsFrame}

-- where the frame ends that it read where it stands
abbrev pub read_end : ReaderSeat → ℕ
read_end r = 32 * r.read_to

-- it stands where it stood, and knows all frames that it knew
pub record StaysThere (r q : ReaderSeat) : Type 0 where
  pub of : q.of ≡ r.of
  pub number : number_of q ≡ number_of r
  pub stands : position_of q ≡ position_of r
  pub keeps : (s : Placed) → Among s (known_by r) → Among s (known_by q)

-- a frame begins where it stands, which it knows from then on; one that it knew there is the same. The head shows it, and these
-- bytes are its payload
pub record FindsFrame (r : ReaderSeat) (head : FrameHead) (payload : List ℕ) (q : ReaderSeat) : Type 0 where
  pub reads : ShowsFrame r head payload q
  pub frame : Placed
  pub here : frame.at ≡ position_of r
  pub known : Among frame (known_by q)
  pub only : (s : Placed) → Among s (known_by r) → s.at ≡ position_of r → s ≡ frame
  pub head_is : head ≡ head_at frame.at frame.frame
  pub payload_is : payload ≡ payload_of frame.frame
  pub small : length payload ≤ 65472
  pub short : IsShort head
  pub long : 32 ≤ frame_length frame.frame
  pub ends : read_end q ≡ end_of frame
  pub stays : StaysThere r q
  pub misses : misses_of q ≡ misses_of r

-- the same; and its payload stands in front of the block's other bytes
pub record FindsHere (r : ReaderSeat) (before : List ℕ) (head : FrameHead) (q : ReaderSeat) (after : List ℕ) : Type 0 where
  pub reads : ReadsFrame r head before q after
  pub frame : Placed
  pub here : frame.at ≡ position_of r
  pub known : Among frame (known_by q)
  pub only : (s : Placed) → Among s (known_by r) → s.at ≡ position_of r → s ≡ frame
  pub head_is : head ≡ head_at frame.at frame.frame
  pub payload : after ≡ with_front before (payload_of frame.frame)
  pub short : IsShort head
  pub long : 32 ≤ frame_length frame.frame
  pub ends : read_end q ≡ end_of frame
  pub stays : StaysThere r q
  pub misses : misses_of q ≡ misses_of r

-- it looked there once more and found none: no frame that it knows begins where it stands
pub record FindsNothing (r : ReaderSeat) (before : List ℕ) (q : ReaderSeat) (after : List ℕ) : Type 0 where
  pub reads : ReadsNone r before q after
  pub none : (s : Placed) → Among s (known_by q) → s.at ≡ position_of r → ⊥
  pub untouched : after ≡ before
  pub stays : StaysThere r q
  pub misses : misses_of q ≡ misses_of r + 1

-- it stands where the frame ends that it read, a unit further on at the least
pub record PassesOn (r q : ReaderSeat) : Type 0 where
  pub advances : Advances r q
  pub of : q.of ≡ r.of
  pub number : number_of q ≡ number_of r
  pub stands : position_of q ≡ read_end r
  pub forward : position_of r + 32 ≤ position_of q
  pub keeps : (s : Placed) → Among s (known_by r) → Among s (known_by q)
  pub misses : misses_of q ≡ misses_of r
