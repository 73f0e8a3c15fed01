-- The rule's second part: what the words of the stream are, by the frames of all passes.
-- A pass has the frames of its claims, and their words, as far as they aren't cleaned, stand at their places among
-- those of three terms. The first word of a committed frame isn't zero, that of an open one is; from the tail on all
-- is zero, up to three terms above what is cleaned.
use Rattle.std.specs.Prelude.{◌≡◌, ℕ, ◌+◌, ◌*◌, ◌%◌, ◌<◌, ◌≤◌, List, length, map, slice_index}
use Rattle.std.specs.List.{AllByRecursion, flat_map}
use mathlib.Core.Option.{some}
use lib.ListN.{get_elem?}
use Rattle.theory.specs.Entry.{length_of}
use Rattle.theory.specs.Placed.{Frame, frame_length}
use Rattle.theory.specs.Bytes.{Identity}
use Rattle.publication.specs.declared.pass.FrameWords.{FrameWords}
use Rattle.publication.specs.declared.pass.Pass.{Pass}
use Rattle.publication.specs.Steps.{Extent, extent_of, frames_of, ranges_of}
use Rattle.position.specs.Words.{IsLegal, frame_words}
use Rattle.log_rule.specs.Claims.Packs.{slot}
use Rattle.log_rule.specs.Claims.Sums.{total}
use Rattle.log_rule.specs.Claims.Rule.{Bounds, ClaimsHold, shape_of, size_of, weight}

-- the end of what was claimed, by the passes alone
abbrev pub tail_of : Bounds → List Pass → ℕ
tail_of b passes = b.start + total (weight length_of) passes

-- the words of a frame stand at their places, those that aren't cleaned
abbrev pub StandsInTable : Bounds → List ℕ → FrameWords → Type 0
StandsInTable b words f = (i : ℕ) → i < length f.words → b.cleaned ≤ f.start + 8 * i → slice_index words (slot (shape_of b) (f.start + 8 * i)) ≡ slice_index f.words i

-- it is a frame of the stream, whole, of the length that was claimed
pub record IsCommittedFrame (i : Identity) (f : FrameWords) : Type 0 where
  pub first : 0 < slice_index f.words 0
  pub content : Frame
  pub legal : IsLegal i.geometry content
  pub whole : f.cut ≡ frame_length content
  pub spelt : f.words ≡ frame_words i f.start content

abbrev pub IsOpen : FrameWords → Type 0
IsOpen f = slice_index f.words 0 ≡ 0

abbrev pub IsAligned : FrameWords → Type 0
IsAligned f = f.start % 8 ≡ 0

pub record Stored (b : Bounds) (words : List ℕ) (v : Pass) : Type 0 where
  pub stands : AllByRecursion (StandsInTable b words) (frames_of v)
  -- its frames are those of its claims, in whatever order
  pub placed : (h : Extent → ℕ) → total h (flat_map ranges_of v.right.claims) ≡ total h (map extent_of (frames_of v))
  pub aligned : AllByRecursion IsAligned (frames_of v)
  pub done : AllByRecursion (IsCommittedFrame b.identity) v.work.frames
  pub undone : AllByRecursion IsOpen v.work.drafts
  -- no open frame is cleaned
  pub kept : AllByRecursion (λ f. b.cleaned ≤ f.start) v.work.drafts

pub record Memory (b : Bounds) (words : List ℕ) (passes : List Pass) : Type 0 where
  pub cleaned : b.cleaned ≤ b.floor
  pub held : b.limit + b.greatest * 8 ≤ b.cleaned + 3 * size_of b
  pub zeros : (x : ℕ) → x % 8 ≡ 0 → tail_of b passes ≤ x → x < b.cleaned + 3 * size_of b → slice_index words (slot (shape_of b) x) ≡ 0
  pub each : (j : ℕ) (v : Pass) → get_elem? passes j ≡ some v → Stored b words v

-- the whole rule
pub record Ruled (b : Bounds) (words : List ℕ) (passes : List Pass) : Type 0 where
  pub claims : ClaimsHold b words passes
  pub memory : Memory b words passes
