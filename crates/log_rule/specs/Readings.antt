-- What a consumer's steps tell.
use Rattle.std.specs.Prelude.{◌≡◌, ℕ, suc, ◌+◌, ◌*◌, ◌<◌, ◌≤◌, ◌⊎◌, [], ◌∷◌, ◌++◌, length, slice_index, slice_set}
use mathlib.Core.Option.{some}
use lib.ListN.{get_elem?}
use Rattle.theory.specs.Bytes.{Identity}
use Rattle.theory.specs.Placed.{Among}
use Rattle.position.specs.Heads.{IsStreamFrame, head_of}
use Rattle.publication.specs.declared.pass.FrameWords.{FrameWords}
use Rattle.publication.specs.declared.pass.Pass.{Pass}
use Rattle.publication.specs.declared.pass.Reading.{Reading}
use Rattle.publication.specs.Steps.{term_of}
use Rattle.log_rule.specs.Claims.Memory.{IsCommittedFrame}
use Rattle.log_rule.specs.Claims.Sure.{LearnsControls}
use Rattle.log_rule.specs.Claims.Plays.{Mine}

-- what a step of a consumer or of the keeper tells, by the word that was found; the seat learns nothing of the control words
abbrev pub reading : (Pass → ℕ → Pass → Type 0) → Mine → ℕ → Mine → Type 0
reading told m n m' = (m'.1 ≡ m.1) × (m'.0.steps ≡ suc m.0.steps) × LearnsControls [] m.0 m'.0 × told m.0.pass n m'.0.pass

-- the consumer at this place among those that the pass is
abbrev pub IsConsumer : Pass → ℕ → Reading → Type 0
IsConsumer v place r = get_elem? v.reading place ≡ some r

abbrev pub with_consumer : Pass → ℕ → Reading → Pass
with_consumer v place r = record v { reading = slice_set v.reading place r }

abbrev pub knows_more : Reading → FrameWords → Reading
knows_more r f = record r { known = r.known ++ f ∷ [] }

-- it has looked once more, and found none
abbrev pub missed : Reading → Reading
missed r = record r { misses = suc r.misses }

abbrev pub moved_to : Reading → ℕ → Reading
moved_to r p = record r { position = p }

abbrev pub end_of : FrameWords → ℕ
end_of f = f.start + 8 * length f.words

-- a committed frame of the stream, which begins at a position
pub record IsFrameAt (i : Identity) (p : ℕ) (f : FrameWords) : Type 0 where
  pub at : f.start ≡ p
  pub done : IsCommittedFrame i f
  pub head : IsStreamFrame i.geometry (head_of p done.content)

-- a frame that the consumer knows, or that its own pass committed
abbrev pub Has : Pass → Reading → FrameWords → Type 0
Has v r f = Among f r.known ⊎ Among f v.work.frames

-- it is the one where the consumer stands, and the consumer knows it from then on
pub record FindsFrame (v : Pass) (place : ℕ) (r : Reading) (n : ℕ) (w : Pass) : Type 0 where
  pub frame : FrameWords
  pub here : IsFrameAt v.identity r.position frame
  pub word : slice_index frame.words 0 ≡ n
  -- one that it had there is the same
  pub only : (g : FrameWords) → Has v r g → g.start ≡ r.position → g ≡ frame
  -- who has all parts committed it
  pub own : v.right.parts ≡ 1024 → Among frame v.work.frames
  pub after : w ≡ with_consumer v place (knows_more r frame)

-- the first word where the consumer stands: none is committed there while it is zero, and the look is counted then
pub record LookedHere (v : Pass) (place : ℕ) (r : Reading) (n : ℕ) (w : Pass) : Type 0 where
  pub none : n ≡ 0 → (w ≡ with_consumer v place (missed r)) × ((g : FrameWords) → Has v r g → g.start ≡ r.position → ⊥)
  pub found : 0 < n → FindsFrame v place r n w

abbrev pub Looks : Pass → ℕ → ℕ → Pass → Type 0
Looks v place n w = (r : Reading) → IsConsumer v place r → LookedHere v place r n w

-- a word of a frame that the consumer has, a term below it at the most; the frame is one of the stream
pub record Rereads (v : Pass) (place p i n : ℕ) (w : Pass) : Type 0 where
  pub word : (r : Reading) (f : FrameWords) → IsConsumer v place r → Has v r f → f.start ≡ p → i < length f.words → r.position ≤ p + term_of v → n ≡ slice_index f.words i
  pub here : (r : Reading) (f : FrameWords) → IsConsumer v place r → Has v r f → f.start ≡ p → IsFrameAt v.identity p f
  pub only : (r : Reading) (f g : FrameWords) → IsConsumer v place r → Has v r f → f.start ≡ p → Has v r g → g.start ≡ p → g ≡ f
  pub after : w ≡ v

-- the consumer knows the frame where it stands, which ends there
pub record MayPass (v : Pass) (place end : ℕ) : Type 0 where
  pub consumer : Reading
  pub is : IsConsumer v place consumer
  pub frame : FrameWords
  pub known : Among frame consumer.known
  pub here : frame.start ≡ consumer.position
  pub ends : end ≡ end_of frame

-- it stands there, which is where each frame ends that it had where it stood
pub record Consumed (v : Pass) (place end : ℕ) (r : Reading) (w : Pass) : Type 0 where
  pub after : w ≡ with_consumer v place (moved_to r end)
  pub ends : (g : FrameWords) → Has v r g → g.start ≡ r.position → end ≡ end_of g
  pub here : (g : FrameWords) → Has v r g → g.start ≡ r.position → IsFrameAt v.identity r.position g

abbrev pub Consumes : Pass → ℕ → ℕ → Pass → Type 0
Consumes v place end w = (r : Reading) → IsConsumer v place r → Consumed v place end r w
