-- Each kind of step is one event of the stream, or a look: what it does to all that was claimed and to all that is committed.
use Rattle.std.specs.Prelude.{◌≡◌, ◌⊎◌, ℕ, suc, ◌+◌, ◌%◌, ◌^◌, ◌<◌, ◌≤◌, ◌==◌, List, slice_index, slice_set}
use mathlib.Core.Option.{some}
use lib.ListN.{get_elem?}
use prog.Atomic.{either}
use Rattle.theory.specs.Position.{framed_length, id_of, max_message}
use Rattle.theory.specs.Entry.{Entry, IsEntry}
use Rattle.theory.specs.Words.{id_before, id_in, tail_word}
use Rattle.publication.specs.declared.pass.FrameWords.{FrameWords}
use Rattle.publication.specs.declared.pass.Pass.{Pass}
use Rattle.publication.specs.Steps.{Adds, Arms, Commits, Counts, ExchangesCount, HasWord, Nexts, Rotates, Sees, Stores, geometry_of}
use Rattle.publication.specs.Frames.{CompletesFrame}
use Rattle.log_rule.specs.Claims.Packs.{count_place, limit_place, slot, tail_place}
use Rattle.log_rule.specs.Claims.Sums.{total}
use Rattle.log_rule.specs.Claims.Rule.{Bounds, weight}
use Rattle.log_rule.specs.Claims.Memory.{IsCommittedFrame, Ruled, tail_of}
use Rattle.log_rule.specs.Claims.Admits.{Same}

-- of the committed frames of a pass
abbrev pub committed_weight : (FrameWords → ℕ) → Pass → ℕ
committed_weight h v = total h v.work.frames

-- the same is claimed, and the same is committed
abbrev pub SameClaimed : List Pass → List Pass → Type 0
SameClaimed before after = (h : Entry → ℕ) → total (weight h) after ≡ total (weight h) before

abbrev pub SameCommitted : List Pass → List Pass → Type 0
SameCommitted before after = (h : FrameWords → ℕ) → total (committed_weight h) after ≡ total (committed_weight h) before

pub record IsLook (before after : List Pass) : Type 0 where
  pub claimed : SameClaimed before after
  pub committed : SameCommitted before after

-- one entry more is claimed, at the tail
pub record IsClaimed (b : Bounds) (before after : List Pass) : Type 0 where
  pub entry : Entry
  pub legal : IsEntry entry
  pub at_tail : entry.start ≡ tail_of b before
  pub claimed : (h : Entry → ℕ) → total (weight h) after ≡ total (weight h) before + h entry
  pub committed : SameCommitted before after

-- one frame more is committed
pub record IsCommitted (b : Bounds) (before after : List Pass) : Type 0 where
  pub frame : FrameWords
  pub done : IsCommittedFrame b.identity frame
  pub claimed : SameClaimed before after
  pub committed : (h : FrameWords → ℕ) → total (committed_weight h) after ≡ total (committed_weight h) before + h frame

abbrev pub IsEvent : Bounds → List Pass → List Pass → Type 0
IsEvent b before after = IsLook before after ⊎ (IsClaimed b before after ⊎ IsCommitted b before after)

-- a step on the word i, whatever stands, keeps the rule, leaves its pass one of the log, tells of it, and is an event
abbrev pub Eventful : Bounds → ℕ → Pass → ℕ → (ℕ → ℕ) → (ℕ → Pass → Type 0) → Type 0
Eventful b id v i f told = (words : List ℕ) (passes : List Pass) → Ruled b words passes → get_elem? passes id ≡ some v
    → (w : Pass) × Ruled b (slice_set words i (f (slice_index words i))) (slice_set passes id w) × Same v w × told (slice_index words i) w × IsEvent b passes (slice_set passes id w)

-- the nine kinds
pub record StepsAreEvents : Type 0 where
  pub load_limit : (b : Bounds) (id : ℕ) (v : Pass) → Eventful b id v limit_place (λ n. n) (λ n w. Sees v n w)
  pub load_count : (b : Bounds) (id : ℕ) (v : Pass) → Eventful b id v count_place (λ n. n) (λ n w. Counts v n w)
  pub load_tail : (b : Bounds) (id : ℕ) (v : Pass) → 120 ≤ v.right.parts → Eventful b id v (tail_place v.seen.count) (λ n. n) (λ n w. Arms v n w)
  pub add : (b : Bounds) (id : ℕ) (v : Pass) (size : ℕ) → 120 ≤ v.right.parts → v.right.armed ≡ 1 → size ≤ max_message (geometry_of v) → Eventful b id v (tail_place v.seen.term) (λ n. (n + framed_length (geometry_of v) size) % 2 ^ 64) (λ n w. Adds v size n w)
  pub load_next : (b : Bounds) (id : ℕ) (v : Pass) (k : ℕ) → v.seen.full ≡ suc k → k + 1 < 2 ^ 31 → Eventful b id v (tail_place (k + 1)) (λ n. n) (λ n w. Nexts v k n w)
  pub exchange_next : (b : Bounds) (id : ℕ) (v : Pass) (k from : ℕ) → v.seen.full ≡ suc k → k + 1 < 2 ^ 31 → id_in from ≡ id_before (geometry_of v) k 2 → Eventful b id v (tail_place (k + 1)) (λ n. either (n == from) (tail_word (id_of (geometry_of v) (k + 1)) 0) n) (λ n w. Rotates v k from n w)
  pub exchange_count : (b : Bounds) (id : ℕ) (v : Pass) (k : ℕ) → v.seen.begun ≡ k + 1 → Eventful b id v count_place (λ n. either (n == k) (k + 1) n) (λ n w. ExchangesCount v k n w)
  pub store : (b : Bounds) (id : ℕ) (v : Pass) (p x : ℕ) → HasWord v 1 p → Eventful b id v (slot (geometry_of v) p) (λ _. x) (λ _ w. Stores v p x w)
  pub commit : (b : Bounds) (id : ℕ) (v : Pass) (p x : ℕ) → CompletesFrame v p x → 0 < x → Eventful b id v (slot (geometry_of v) p) (λ _. x) (λ _ w. Commits v p x w)
