-- What a reader's calls say.
use Rattle.std.specs.Prelude.{◌≡◌, ℕ, ◌*◌, ◌<◌, ◌≤◌, List, ◌++◌, drop, length}
use Rattle.theory.specs.Placed as placed
use Rattle.theory.specs.Placed.{covered, payload_of}
use Rattle.position.specs.declared.head.FrameHead.{FrameHead}
use Rattle.position.specs.Heads.{head_of}
use Rattle.image_rule.specs.declared.view.Frame.{Frame}
use Rattle.image_rule.specs.declared.view.View.{View}
use Rattle.image_rule.specs.Frames.{Among, IsContent, end_of, frame_said, placed_of}
use Rattle.image_rule.specs.Steps.{holding, moved_to, with_known, with_miss}
use Rattle.image.specs.Handles.{ReaderSeat}

-- ---- by views

-- no frame that it knows begins where it stands, and it looked there once and found none
pub record FindsNone (v w : View) : Type 0 where
  pub none : (g : Frame) → Among g v.reading.known → g.unit ≡ v.reading.unit → ⊥
  pub after : w ≡ with_miss v

-- a frame begins where it stands, which it knows from then on; one that it knew there is the same
pub record Finds (v : View) (head : FrameHead) (w : View) : Type 0 where
  pub frame : Frame
  pub here : frame.unit ≡ v.reading.unit
  pub content : IsContent (frame_said frame.bytes)
  pub shown : head ≡ head_of (32 * v.reading.unit) (frame_said frame.bytes)
  pub only : (g : Frame) → Among g v.reading.known → g.unit ≡ v.reading.unit → g ≡ frame
  pub after : w ≡ holding (with_known v frame) w.reading.round w.reading.book

-- a frame's payload stands in front of other bytes
abbrev pub IsCopied : placed.Frame → List ℕ → List ℕ → Type 0
IsCopied f before after = after ≡ payload_of f ++ drop (length (payload_of f)) before

-- the payload stands in front of the bytes that were there, where it fits; where it doesn't, these stay
pub record LiesInFront (before payload after : List ℕ) : Type 0 where
  pub fits : length payload ≤ length before → after ≡ payload ++ drop (length payload) before
  pub else : length before < length payload → after ≡ before

-- ---- by readers

-- it reads the frame that begins where it stands, as it was stored: one that it knew there is the same, and it knows it from
-- then on; these bytes are its payload
pub record ShowsFrame (r : ReaderSeat) (head : FrameHead) (payload : List ℕ) (q : ReaderSeat) : Type 0 where
  pub finds : Finds r.view head q.view
  pub payload_is : payload ≡ payload_of (frame_said finds.frame.bytes)
  pub read_to : q.read_to ≡ end_of finds.frame
  pub covers : 32 * finds.frame.units ≡ covered (placed_of finds.frame)
  pub same : q ≡ record r { view = q.view; read_to = q.read_to }

-- it reads the frame that begins where it stands, as it was stored: one that it knew there is the same, and it knows it from
-- then on; its payload stands in the block's front
pub record ReadsFrame (r : ReaderSeat) (head : FrameHead) (before : List ℕ) (q : ReaderSeat) (after : List ℕ) : Type 0 where
  pub finds : Finds r.view head q.view
  pub copied : IsCopied (frame_said finds.frame.bytes) before after
  pub read_to : q.read_to ≡ end_of finds.frame
  pub covers : 32 * finds.frame.units ≡ covered (placed_of finds.frame)
  pub same : q ≡ record r { view = q.view; read_to = q.read_to }

-- its held bit, which was loaded once, was zero: it knows no frame there
pub record ReadsNone (r : ReaderSeat) (before : List ℕ) (q : ReaderSeat) (after : List ℕ) : Type 0 where
  pub finds : FindsNone r.view q.view
  pub same : q ≡ record r { view = q.view; read_to = r.view.reading.unit }
  pub untouched : after ≡ before

-- it has read the frame where it stands
abbrev pub MayAdvance : ReaderSeat → Type 0
MayAdvance r = r.view.reading.unit < r.read_to

-- it stands where the frame ends that it read, one that it knows
pub record Advances (r q : ReaderSeat) : Type 0 where
  pub past : Frame
  pub among : Among past r.view.reading.known
  pub here : past.unit ≡ r.view.reading.unit
  pub ends : r.read_to ≡ end_of past
  pub same : q ≡ record r { view = moved_to r.view (end_of past) }
