-- What a step of a consumer asks, and what it leaves.
use Rattle.std.specs.Prelude.{◌≡◌, ℕ, zero, suc, ◌+◌, ◌-◌, ◌<◌, ◌≤◌, ◌==◌, nat_le, List, [], ◌∷◌, ◌++◌, drop, slice_index, take, if◌then◌else◌}
use Rattle.theory.specs.Placed.{Among}
use Rattle.position.specs.Contents.{bytes_in}
use Rattle.position.specs.declared.head.FrameHead.{FrameHead}
use Rattle.position.specs.declared.head.FrameKind.{FrameKind}
use Rattle.position.specs.declared.head.FrameKind.TheVariants as kinds
use Rattle.publication.specs.declared.pass.FrameWords.{FrameWords}
use Rattle.publication.specs.declared.pass.Pass.{Pass}
use Rattle.publication.specs.declared.pass.Reading.{Reading}
use Rattle.publication.specs.Steps.{term_of}
use Rattle.log_rule.specs.Readings.{Has, IsConsumer, IsFrameAt}
use Rattle.log_memory.specs.Kinds.{no_frame, no_reading}
use Rattle.shared_log.specs.Steps.Handles.{PublisherValue}
use Rattle.log_memory.specs.declared.reader.Consumer.{Consumer}

-- the consumer at its place among those of the pass has its number, and stands where it says
pub record IsAt (v : Pass) (c : Consumer) : Type 0 where
  pub reading : Reading
  pub is : IsConsumer v c.place reading
  pub number_is : reading.number ≡ c.number
  pub position_is : reading.position ≡ c.position
  pub low : c.number < 8

-- the same seat, which knows the control words that it was sure of
pub record SameSeat (p q : PublisherValue) : Type 0 where
  pub of : q.of ≡ p.of
  pub seat : q.seat ≡ p.seat
  pub sure : q.sure ≡ p.sure
  pub controls : p.sure ≡ 1 → q.controls ≡ p.controls
  pub freed : q.freed ≡ p.freed

-- ---- a payload

-- how many bytes of it are copied where there is so much room: all, or none where they are more
abbrev pub fitting : ℕ → ℕ → ℕ
fitting count room = if nat_le count room then count else 0

abbrev pub part_of : FrameKind → ℕ → ℕ → ℕ
part_of kinds.Data count room = fitting count room
part_of kinds.Pad count room = 0

abbrev pub part_bytes : FrameHead → ℕ → ℕ
part_bytes head room = part_of head.kind (head.frame_length - 32) room

-- so many bytes behind the header of a frame stand in front of others
abbrev pub Copies : FrameWords → ℕ → List ℕ → List ℕ → Type 0
Copies f count before after = after ≡ take count (bytes_in (drop 4 f.words)) ++ drop count before

-- of the one that the consumer knows where it stands
abbrev pub CopiesKnown : Pass → Consumer → ℕ → List ℕ → List ℕ → Type 0
CopiesKnown v c count before after = (r : Reading) (f : FrameWords) → IsConsumer v c.place r → Among f r.known → f.start ≡ c.position → Copies f count before after

-- of the one that it has somewhere
abbrev pub CopiesHad : Pass → Consumer → ℕ → ℕ → List ℕ → List ℕ → Type 0
CopiesHad v c start count before after = (r : Reading) (f : FrameWords) → IsConsumer v c.place r → Has v r f → f.start ≡ start → Copies f count before after

-- ---- reading again

-- it has a frame that begins there, a term below it at the most
pub record MayRereadAt (v : Pass) (c : Consumer) (start : ℕ) : Type 0 where
  pub at : IsAt v c
  pub frame : FrameWords
  pub has : Has v at.reading frame
  pub here : frame.start ≡ start
  pub near : c.position ≤ start + term_of v

-- its first word was loaded, and it is a frame of the stream, the only one that the consumer has there
pub record IsRead (v : Pass) (r : Reading) (f : FrameWords) (start n : ℕ) : Type 0 where
  pub word : n ≡ slice_index f.words 0
  pub here : IsFrameAt v.identity start f
  pub only : (g : FrameWords) → Has v r g → g.start ≡ start → g ≡ f

abbrev pub ReadsAgain : Pass → Consumer → ℕ → ℕ → Type 0
ReadsAgain v c start n = (r : Reading) (f : FrameWords) → IsConsumer v c.place r → Has v r f → f.start ≡ start → IsRead v r f start n

-- ---- which they are

abbrev pub reading_at : ℕ → List Reading → Reading
reading_at place [] = no_reading
reading_at zero (r ∷ rs) = r
reading_at (suc place) (r ∷ rs) = reading_at place rs

-- the first of some frames that begins at a position
abbrev pub frame_from : ℕ → List FrameWords → FrameWords
frame_from p [] = no_frame
frame_from p (f ∷ fs) = if f.start == p then f else frame_from p fs

-- those that the consumer has
abbrev pub had_at : ℕ → Pass → List FrameWords
had_at place v = (reading_at place v.reading).known ++ v.work.frames
