-- Where frames of a stream begin, and where a consumer may stand.
use Rattle.std.specs.Prelude.{◌≡◌, ℕ, ◌+◌, ◌-◌, ◌%◌, ◌<◌, ◌≤◌, ◌⊎◌, List, max, min}
use mathlib.Core.Option.{some}
use lib.ListN.{get_elem?}
use Rattle.theory.specs.Entry.{Entry}
use Rattle.theory.specs.Placed.{Among}
use Rattle.publication.specs.declared.pass.FrameWords.{FrameWords}
use Rattle.publication.specs.declared.pass.Pass.{Pass}
use Rattle.publication.specs.Steps.{Extent, extent_of, extents}
use Rattle.log_rule.specs.Claims.Sums.{total}
use Rattle.log_rule.specs.Claims.Rule.{Bounds, size_of, weight}
use Rattle.log_rule.specs.Claims.Memory.{tail_of}
use Rattle.log_rule.specs.Claims.Events.{committed_weight}

-- over the frames that passes claimed, whatever is committed of them
abbrev pub in_entry : (Extent → ℕ) → Entry → ℕ
in_entry h e = total h (extents e.start e.cuts)

abbrev pub claimed_sum : (Extent → ℕ) → List Pass → ℕ
claimed_sum h passes = total (weight (in_entry h)) passes

-- over those that are committed
abbrev pub committed_sum : (Extent → ℕ) → List Pass → ℕ
committed_sum h passes = total (committed_weight (λ f. h (extent_of f))) passes

-- over those that are open
abbrev pub open_weight : (Extent → ℕ) → Pass → ℕ
open_weight h v = total (λ f. h (extent_of f)) v.work.drafts

abbrev pub open_sum : (Extent → ℕ) → List Pass → ℕ
open_sum h passes = total (open_weight h) passes

-- 1 where a range that isn't empty begins at a position, or below it
abbrev pub begins_at : ℕ → Extent → ℕ
begins_at p r = min r.bytes (1 - ((r.start - p) + (p - r.start)))

abbrev pub begins_below : ℕ → Extent → ℕ
begins_below p r = min 1 (min r.bytes (p - r.start))

-- a frame begins there, or the stream ends
abbrev pub IsEdge : Bounds → List Pass → ℕ → Type 0
IsEdge b passes p = (p ≡ tail_of b passes) ⊎ (0 < claimed_sum (begins_at p) passes)

-- each frame that begins below is committed
abbrev pub AreCommitted : List Pass → ℕ → Type 0
AreCommitted passes p = claimed_sum (begins_below p) passes ≡ committed_sum (begins_below p) passes

-- the frame is committed by one of the passes
abbrev pub IsAmong : List Pass → FrameWords → Type 0
IsAmong passes f = (h : FrameWords → ℕ) → h f ≤ total (committed_weight h) passes

-- which pass that is
pub record CommittedBy (passes : List Pass) (f : FrameWords) : Type 0 where
  pub place : ℕ
  pub holder : Pass
  pub at : get_elem? passes place ≡ some holder
  pub among : Among f holder.work.frames

-- a consumer may stand there
pub record IsPlaced (b : Bounds) (passes : List Pass) (p : ℕ) : Type 0 where
  pub unit : p % 32 ≡ 0
  pub from : b.start ≤ p
  -- a term below it is still readable
  pub readable : b.cleaned ≤ max b.start (p - size_of b)
  pub edge : IsEdge b passes p
  pub passed : AreCommitted passes p
