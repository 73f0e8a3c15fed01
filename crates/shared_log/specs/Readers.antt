-- What contracts see of a reader of a log that threads share.
use Rattle.std.specs.Prelude.{◌≡◌, ℕ, ◌+◌, ◌*◌, ◌/◌, ◌<◌, ◌≤◌, ◌⊎◌, zero, suc, List, [], ◌∷◌, ◌++◌, Option, drop, length, map, slice_set}
use Rattle.theory.specs.Position.{max_position}
use Rattle.theory.specs.Placed.{Among, payload_of}
use Rattle.position.specs.declared.head.FrameHead.{FrameHead}
use Rattle.position.specs.Heads.{IsStreamFrame, head_of}
use Rattle.publication.specs.declared.pass.FrameWords.{FrameWords}
use Rattle.publication.specs.declared.pass.Pass.{Pass}
use Rattle.publication.specs.declared.pass.Reading.{Reading}
use Rattle.publication.specs.Contents.{frame_in}
use Rattle.shared_log.specs.Steps.Handles.{IsOf, LogValue, PublisherValue}
use Rattle.log_rule.specs.Readings.{IsConsumer, IsFrameAt, MayPass, end_of, missed}
use Rattle.log_rule.specs.Says.{IsCommittedFor}
use Rattle.log_rule.specs.Table.{reader_alone}
use Rattle.theory.specs.Bytes.{Identity}
use Rattle.shared_log.specs.Steps.Readers.{Copies, SameSeat, part_bytes}
use Rattle.log_memory.specs.declared.reader.Consumer.{Consumer}
use Rattle.shared_log.specs.declared.home.Home.{Home}
use Rattle.shared_log.specs.Handles.{HasHome}

pub record ReaderValue : Type 0 where
  -- the seat that it has
  pub held : PublisherValue
  -- the place of this consumer among those of its pass, and its number
  pub place : ℕ
  pub number : ℕ
  -- where it stands, and where the frame ends that it read there
  pub position : ℕ
  pub read_to : ℕ

-- the consumer at this place has this number and stands there, and knows the frame that it read there
pub record IsReading (v : Pass) (place number position read_to : ℕ) : Type 0 where
  pub consumer : Reading
  pub is : IsConsumer v place consumer
  pub number_is : consumer.number ≡ number
  pub position_is : consumer.position ≡ position
  pub read : position < read_to → MayPass v place read_to
  pub low : position ≤ max_position v.identity.geometry
  pub low_end : read_to ≤ max_position v.identity.geometry

-- which of its pass's consumers it is, and where that stands
abbrev pub consumer_of : ReaderValue → Consumer
consumer_of r = record { place = r.place; number = r.number; position = r.position }

-- what a reader holds beside its pass: the handle of its log's region, where its pass may commit or clean
pub record IsReader (p : PublisherValue) (home : Option Home) (freed place number position read_to : ℕ) (identity : Identity) (start : ℕ) : Type 0 where
  pub reading : IsReading p.pass place number position read_to
  pub home_is : 0 < p.pass.right.parts → HasHome p.of.region home
  pub freed_is : freed ≡ p.freed
  pub identity_is : identity ≡ p.pass.identity
  pub start_is : start ≡ p.pass.start

-- the reader is one of this log
pub record IsReaderOf (l : LogValue) (r : ReaderValue) : Type 0 where
  pub of : IsOf l r.held
  pub number : r.number < 8

-- its pass is that consumer, and nothing else
pub record IsAlone (l : LogValue) (r : ReaderValue) : Type 0 where
  pub consumer : Reading
  pub pass : r.held.pass ≡ reader_alone l.identity l.start consumer
  pub place : r.place ≡ 0

-- the frames that the reader knows to be committed
abbrev pub known_at : List Reading → ℕ → List FrameWords
known_at [] place = []
known_at (r ∷ rs) zero = r.known
known_at (r ∷ rs) (suc place) = known_at rs place

abbrev pub known_of : ReaderValue → List FrameWords
known_of r = known_at r.held.pass.reading r.place

-- how often the reader loaded the word where it stood and found zero
abbrev pub misses_at : List Reading → ℕ → ℕ
misses_at [] place = 0
misses_at (r ∷ rs) zero = r.misses
misses_at (r ∷ rs) (suc place) = misses_at rs place

abbrev pub misses_of : ReaderValue → ℕ
misses_of r = misses_at r.held.pass.reading r.place

-- the pass once its consumer at a place did so again
abbrev pub missing_at : List Reading → ℕ → List Reading
missing_at [] place = []
missing_at (r ∷ rs) zero = missed r ∷ rs
missing_at (r ∷ rs) (suc place) = r ∷ missing_at rs place

abbrev pub missing : ℕ → Pass → Pass
missing place v = record v { reading = missing_at v.reading place }

-- it knows the frame, or its own pass committed it
abbrev pub Has : ReaderValue → FrameWords → Type 0
Has r f = Among f (known_of r) ⊎ Among f r.held.pass.work.frames

abbrev pub HasNone : ReaderValue → ℕ → Type 0
HasNone r position = (f : FrameWords) → Has r f → f.start ≡ position → ⊥

-- ---- what a call leaves

-- it made steps that told it nothing
pub record Rests (r q : ReaderValue) : Type 0 where
  pub seat : SameSeat r.held q.held
  pub pass : q.held.pass ≡ r.held.pass
  pub same : q ≡ record r { held = q.held }

-- it looked where it stands, found zero, and learnt nothing else
pub record Misses (r q : ReaderValue) : Type 0 where
  pub seat : SameSeat r.held q.held
  pub pass : q.held.pass ≡ missing r.place r.held.pass
  pub same : q ≡ record r { held = q.held }

abbrev pub positions_of : Pass → List ℕ
positions_of v = map (λ r. r.position) v.reading

abbrev pub numbers_of : Pass → List ℕ
numbers_of v = map (λ r. r.number) v.reading

-- its pass is another one only in what its consumers know and where they stand
pub record OnlyReads (v w : Pass) : Type 0 where
  pub rest : w ≡ record v { reading = w.reading }
  pub numbers : numbers_of w ≡ numbers_of v

-- the same reader, which stands where it stood
pub record Stays (r q : ReaderValue) : Type 0 where
  pub seat : SameSeat r.held q.held
  pub pass : OnlyReads r.held.pass q.held.pass
  pub positions : positions_of q.held.pass ≡ positions_of r.held.pass
  pub same : q ≡ record r { held = q.held; read_to = q.read_to }

-- the reader stands behind the frame that it read
pub record Advances (r : ReaderValue) (q : ReaderValue) : Type 0 where
  pub seat : SameSeat r.held q.held
  pub pass : OnlyReads r.held.pass q.held.pass
  pub positions : positions_of q.held.pass ≡ slice_set (positions_of r.held.pass) r.place r.read_to
  pub same : q ≡ record r { held = q.held; position = r.read_to }
  pub known : known_of q ≡ known_of r
  pub looked : misses_of q ≡ misses_of r
  -- which is where each frame ends that it had there
  pub ends : (g : FrameWords) → Has r g → g.start ≡ r.position → r.read_to ≡ end_of g
  pub here : (g : FrameWords) → Has r g → g.start ≡ r.position → IsFrameAt r.held.pass.identity r.position g

-- it knows what a pass committed, beside what it knew
pub record Learns (r : ReaderValue) (v : Pass) (q : ReaderValue) : Type 0 where
  pub stays : Stays r q
  pub read_to : q.read_to ≡ r.read_to
  pub known : known_of q ≡ known_of r ++ v.work.frames
  pub looked : misses_of q ≡ misses_of r

-- ---- reading

-- it has found the frame where it stands, which it knows from then on
pub record Finds (l : LogValue) (r : ReaderValue) (head : FrameHead) (q : ReaderValue) : Type 0 where
  pub frame : FrameWords
  pub here : IsFrameAt l.identity r.position frame
  pub shown : head ≡ head_of r.position (frame_in frame)
  pub legal : IsStreamFrame l.identity.geometry head
  pub known : known_of q ≡ known_of r ++ frame ∷ []
  -- a pass has committed it, in whatever state the log is in with this reader
  pub committed : IsCommittedFor q.held.pass frame
  pub looked : misses_of q ≡ misses_of r
  -- what it had there is this frame
  pub only : (g : FrameWords) → Has r g → g.start ≡ r.position → g ≡ frame
  -- who has all parts of a log committed it
  pub own : r.held.pass.right.parts ≡ 1024 → Among frame r.held.pass.work.frames
  pub stays : Stays r q
  pub read : q.read_to ≡ frame.start + 8 * length frame.words

-- the frame was read: its payload stands in the block's front
pub record ReadsFrame (l : LogValue) (r : ReaderValue) (head : FrameHead) (before : List ℕ) (q : ReaderValue) (after : List ℕ) : Type 0 where
  pub finds : Finds l r head q
  pub copied : after ≡ payload_of (frame_in finds.frame) ++ drop (length (payload_of (frame_in finds.frame))) before

-- it has found it, and its payload stands in front of the bytes, if it fits
pub record FindsPart (l : LogValue) (r : ReaderValue) (head : FrameHead) (before : List ℕ) (q : ReaderValue) (after : List ℕ) : Type 0 where
  pub finds : Finds l r head q
  pub copied : Copies finds.frame (part_bytes head (length before)) before after

-- the word there was loaded once, and it was zero: no frame is committed there that the reader has, and it has learnt
-- nothing
pub record FindsNone (r q : ReaderValue) : Type 0 where
  pub none : HasNone r r.position
  pub looked : misses_of q ≡ suc (misses_of r)
  pub known : known_of q ≡ known_of r
  pub rests : Misses r q

pub record ReadsNone (r : ReaderValue) (before : List ℕ) (q : ReaderValue) (after : List ℕ) : Type 0 where
  pub finds : FindsNone r q
  pub untouched : after ≡ before

-- ---- reading again

-- the reader has a frame that begins there, below it, by three quarters of a term at the most
pub record MayReread (l : LogValue) (r : ReaderValue) (position : ℕ) : Type 0 where
  pub frame : FrameWords
  pub has : Has r frame
  pub here : frame.start ≡ position
  pub below : position ≤ r.position
  pub near : r.position ≤ position + 3 * l.identity.geometry.term_length / 4

-- the frame that begins there was read again, the one of those that the reader has
pub record Rereads (l : LogValue) (r : ReaderValue) (position : ℕ) (head : FrameHead) (before : List ℕ) (q : ReaderValue) (after : List ℕ) : Type 0 where
  pub frame : FrameWords
  pub has : Has r frame
  pub at : frame.start ≡ position
  pub only : (g : FrameWords) → Has r g → g.start ≡ position → g ≡ frame
  pub shown : head ≡ head_of position (frame_in frame)
  pub legal : IsStreamFrame l.identity.geometry head
  pub copied : after ≡ payload_of (frame_in frame) ++ drop (length (payload_of (frame_in frame))) before
  pub rests : Rests r q
