-- What a contract sees of a source of frames, and what is read from it.
-- A source is what a reader shows of its log: which stream it is of, where it stands, and the frames that it knows to
-- be committed. Others may add to these meanwhile; how they may grow is the source's own (`grown`).
use Rattle.std.specs.Prelude.{◌≡◌, ℕ, ◌+◌, ◌*◌, ◌/◌, ◌≤◌, List, ◌++◌, length, drop}
use Rattle.theory.specs.Position.{Geometry}
use Rattle.theory.specs.Bytes.{Identity}
use Rattle.theory.specs.Placed.{Among, Frame, Placed, end_of, payload_of}
use Rattle.position.specs.declared.head.FrameHead.{FrameHead}
use Rattle.position.specs.Heads.{IsStreamFrame, head_of}

pub record Source : Type 0 where
  pub identity : Identity
  -- where the reader stands
  pub position : ℕ
  -- those that are known to be committed
  pub frames : List Placed

-- of these frames the one at a position has this head, and its payload stands in the block's front
pub record ReadsAt (g : Geometry) (frames : List Placed) (position : ℕ) (head : FrameHead) (before after : List ℕ) : Type 0 where
  pub legal : IsStreamFrame g head
  pub frame : Frame
  pub among : Among (record { at = position; frame = frame }) frames
  pub only : (f : Placed) → Among f frames → f.at ≡ position → f ≡ record { at = position; frame = frame }
  pub shown : head ≡ head_of position frame
  pub copied : after ≡ payload_of frame ++ drop (length (payload_of frame)) before

-- the frame at the reader's position was read, and the reader stays; others may have committed frames meanwhile
pub record ReadsNext (grown : List Placed → List Placed → Type 0) (old : Source) (head : FrameHead) (before : List ℕ) (new : Source) (after : List ℕ) : Type 0 where
  pub read : ReadsAt old.identity.geometry new.frames old.position head before after
  pub grows : grown old.frames new.frames
  pub stays : new ≡ record old { frames = new.frames }

-- no frame is known to begin at a position
abbrev pub HasNone : Source → ℕ → Type 0
HasNone s position = (f : Placed) → Among f s.frames → f.at ≡ position → ⊥

-- none begins at the reader's position, and nothing has changed
pub record FindsNone (old : Source) (before : List ℕ) (new : Source) (after : List ℕ) : Type 0 where
  pub none : HasNone old old.position
  pub same : new ≡ old
  pub untouched : after ≡ before

-- a frame is known that begins at the position
pub record HasFrame (s : Source) (position : ℕ) : Type 0 where
  pub frame : Frame
  pub among : Among (record { at = position; frame = frame }) s.frames

-- the reader is behind the frame that was at its position
pub record Passes (old : Source) (end : ℕ) (new : Source) : Type 0 where
  pub behind : (f : Placed) → Among f old.frames → f.at ≡ old.position → end ≡ end_of f
  pub moved : new ≡ record old { position = end }

-- a frame is known at the position, and the reader has passed it, three quarters of a term above its start at the most
pub record MayReread (s : Source) (position : ℕ) : Type 0 where
  pub frame : Frame
  pub among : Among (record { at = position; frame = frame }) s.frames
  pub passed : end_of (record { at = position; frame = frame }) ≤ s.position
  pub near : s.position ≤ position + 3 * s.identity.geometry.term_length / 4

-- the frame at this position was read again, and nothing has changed
pub record Rereads (old : Source) (position : ℕ) (head : FrameHead) (before : List ℕ) (new : Source) (after : List ℕ) : Type 0 where
  pub read : ReadsAt old.identity.geometry old.frames position head before after
  pub same : new ≡ old
