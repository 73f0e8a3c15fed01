-- What the keeper may do with a log's memory and its limit, and what it leaves.
use Rattle.std.specs.Prelude.{◌≡◌, ℕ, ◌+◌, ◌-◌, ◌*◌, ◌%◌, ◌<◌, ◌≤◌, List, length, max}
use Rattle.std.specs.List.{AllByRecursion}
use Rattle.theory.specs.Bytes.{Identity}
use Rattle.publication.specs.declared.pass.FrameWords.{FrameWords}
use Rattle.publication.specs.declared.pass.Pass.{Pass}
use Rattle.publication.specs.Steps.{term_of}
use Rattle.log_rule.specs.Keepings.{least_there, with_keeping}
use Rattle.log_memory.specs.Frames.{Follow}
use Rattle.shared_log.specs.Steps.Handles.{PublisherValue}

-- all may be cleaned up to there: it lies a term or more below each consumer that is there, as the keeper saw that
pub record MayCleanTo (v : Pass) (position : ℕ) : Type 0 where
  pub keeper : v.keeping.right ≡ 1
  pub further : v.keeping.cleaned ≤ position
  pub unit : (position - v.keeping.cleaned) % 8 ≡ 0
  pub below : position ≤ max v.start (least_there v.keeping.there v.keeping.positions - term_of v)

-- all is zero up to there, and the memory of the frames that begin below is room, by two steps each and three more
pub record Cleans (i : Identity) (position freed : ℕ) (p q : PublisherValue) : Type 0 where
  pub reached : position ≤ freed
  pub frames : List FrameWords
  pub follow : Follow i p.freed frames freed
  pub low : AllByRecursion (λ f. f.start < position) frames
  pub of : q.of ≡ p.of
  pub seat : q.seat ≡ p.seat
  pub pass : q.pass ≡ with_keeping p.pass (record p.pass.keeping { cleaned = position })
  pub steps : q.steps ≡ p.steps + (2 * length frames + 3)
  pub sure : q.sure ≡ p.sure
  pub controls : p.sure ≡ 1 → q.controls ≡ p.controls
  pub freed_is : q.freed ≡ freed

-- the same seat, which has stored this limit word
pub record SetsLimit (word : ℕ) (p q : PublisherValue) : Type 0 where
  pub of : q.of ≡ p.of
  pub seat : q.seat ≡ p.seat
  pub steps : q.steps ≡ p.steps + 1
  pub sure : q.sure ≡ p.sure
  pub controls : p.sure ≡ 1 → q.controls ≡ record p.controls { limit = word }
  pub freed : q.freed ≡ p.freed
