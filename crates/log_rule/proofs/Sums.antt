-- Sums over the frames of all passes.
use Rattle.std.proofs.Common.{◌≡◌, ℕ, suc, ◌+◌, ◌-◌, ◌<◌, ◌≤◌, min, List, [], ◌∷◌, sym, refl, ap, ◌∙◌, lt_of_not-le, arith}
use mathlib.Core.Option.{some}
use mathlib.Core.Logic.{dite}
use native.Mathlib.Decide.{dec_le}
use lib.ListN.{get_elem?}
use Rattle.theory.specs.Entry.{length_of}
use Rattle.theory.specs.Position.{aligned, span}
use Rattle.publication.specs.declared.pass.Pass.{Pass}
use Rattle.publication.specs.Steps.{Extent, extent_of, extents, frames_of, ranges_of}
use Rattle.log_rule.specs.Claims.Sums.{covers, total}
use Rattle.log_rule.specs.Claims.Rule.{Bounds, ClaimsHold, entries_of, entry_of, weight}
use Rattle.log_rule.specs.Claims.Memory.{Memory, Stored, tail_of}
use Rattle.log_rule.specs.Claims.Events.{committed_weight}
use Rattle.log_rule.proofs.Claimed.Totals.{total_append, total_at, total_flat, total_le, total_map, total_same}
use Rattle.log_rule.proofs.Claimed.Memories.{cover_passes, held_by}
use Rattle.log_rule.specs.Edges.{claimed_sum, committed_sum, in_entry, open_sum, open_weight}

-- ---- any list

pub total_up : {A : Type 0} (f g : A → ℕ) (xs : List A) → ((x : A) → f x ≤ g x) → total f xs ≤ total g xs
total_up f g [] le = omega arith
total_up f g (x ∷ xs) le = let a = le x in let r = total_up f g xs le in omega arith

pub total_both : {A : Type 0} (f g : A → ℕ) (xs : List A) → total (λ x. f x + g x) xs ≡ total f xs + total g xs
total_both f g [] = refl
total_both f g (x ∷ xs) = let r = total_both f g xs in omega arith

pub total_at_each : {A : Type 0} (f g : A → ℕ) (xs : List A) → ((i : ℕ) (v : A) → get_elem? xs i ≡ some v → f v ≡ g v) → total f xs ≡ total g xs
total_at_each f g xs e = let a = total_le f g xs (λ i v at. let x = e i v at in omega arith) in let c = total_le g f xs (λ i v at. let x = e i v at in omega arith) in omega arith

-- a sum that isn't 0 has a summand that isn't
pub record HasSome {A : Type 0} (f : A → ℕ) (xs : List A) : Type 0 where
  pub place : ℕ
  pub one : A
  pub at : get_elem? xs place ≡ some one
  pub some : 0 < f one

pub has_some : {A : Type 0} (f : A → ℕ) (xs : List A) → 0 < total f xs → HasSome f xs
has_some f [] pos = absurd (omega arith)
has_some f (x ∷ xs) pos = dite (dec_le 1 (f x))
    (λ one. record { place = 0; one = x; at = refl; some = one })
    (λ none. let zero_here = lt_of_not-le none in let r = has_some f xs (omega arith) in record { place = suc r.place; one = r.one; at = r.at; some = r.some })

-- ---- over claims

pub sum_up : (h k : Extent → ℕ) (ps : List Pass) → ((r : Extent) → h r ≤ k r) → claimed_sum h ps ≤ claimed_sum k ps
sum_up h k ps le = total_up (weight (in_entry h)) (weight (in_entry k)) ps (λ v. total_up (in_entry h) (in_entry k) (entries_of v) (λ e. total_up h k (extents e.start e.cuts) le))

pub sum_both : (h k : Extent → ℕ) (ps : List Pass) → claimed_sum (λ r. h r + k r) ps ≡ claimed_sum h ps + claimed_sum k ps
sum_both h k ps =
    total_same (weight (in_entry (λ r. h r + k r))) (λ v. weight (in_entry h) v + weight (in_entry k) v) ps
    (λ v. total_same (in_entry (λ r. h r + k r)) (λ e. in_entry h e + in_entry k e) (entries_of v) (λ e. total_both h k (extents e.start e.cuts)) ∙ total_both (in_entry h) (in_entry k) (entries_of v))
    ∙ total_both (weight (in_entry h)) (weight (in_entry k)) ps

cover_two : (x p a s : ℕ) → covers x p a + covers x (p + a) s ≡ covers x p (a + s)
cover_two x p a s = omega arith

pub cover_cuts : (x p : ℕ) (cuts : List ℕ) → total (λ r. covers x r.start r.bytes) (extents p cuts) ≡ covers x p (span cuts)
cover_cuts x p [] = omega arith
cover_cuts x p (cut ∷ cuts) = ap (λ (n : ℕ). covers x p (aligned cut) + n) (cover_cuts x (p + aligned cut) cuts) ∙ cover_two x p (aligned cut) (span cuts)

-- a position of the stream is one frame's
abbrev pub covering : ℕ → Extent → ℕ
covering x r = covers x r.start r.bytes

pub covered : (b : Bounds) (ws : List ℕ) (ps : List Pass) → ClaimsHold b ws ps → (x : ℕ) → claimed_sum (covering x) ps ≡ min 1 (min (x + 1 - b.start) (tail_of b ps - x))
covered b ws ps r x = total_same (weight (in_entry (covering x))) (held_by x) ps (λ v. total_same (in_entry (covering x)) (λ e. covers x e.start (length_of e)) (entries_of v) (λ e. cover_cuts x e.start e.cuts)) ∙ cover_passes b ws ps r x

-- ---- over frames

-- of one pass, by its frames
pub claimed_by : (b : Bounds) (ws : List ℕ) (v : Pass) → Stored b ws v → (h : Extent → ℕ) → weight (in_entry h) v ≡ total (λ f. h (extent_of f)) (frames_of v)
claimed_by b ws v k h =
    total_map (in_entry h) entry_of v.right.claims
    ∙ sym (total_flat h ranges_of v.right.claims)
    ∙ k.placed h
    ∙ total_map h extent_of (frames_of v)

pub parted : (b : Bounds) (ws : List ℕ) (v : Pass) → Stored b ws v → (h : Extent → ℕ) → weight (in_entry h) v ≡ committed_weight (λ f. h (extent_of f)) v + total (λ f. h (extent_of f)) v.work.drafts
parted b ws v k h = claimed_by b ws v k h ∙ total_append (λ f. h (extent_of f)) v.work.frames v.work.drafts

-- of all passes
pub all_parted : (b : Bounds) (ws : List ℕ) (ps : List Pass) → Memory b ws ps → (h : Extent → ℕ) → claimed_sum h ps ≡ committed_sum h ps + open_sum h ps
all_parted b ws ps m h =
    total_at_each (weight (in_entry h)) (λ v. committed_weight (λ f. h (extent_of f)) v + open_weight h v) ps (λ i v at. parted b ws v (m.each i v at) h)
    ∙ total_both (committed_weight (λ f. h (extent_of f))) (open_weight h) ps

-- what is committed was claimed
pub sum_less : (b : Bounds) (ws : List ℕ) (ps : List Pass) → Memory b ws ps → (h : Extent → ℕ) → committed_sum h ps ≤ claimed_sum h ps
sum_less b ws ps m h = total_le (committed_weight (λ f. h (extent_of f))) (weight (in_entry h)) ps (λ i v at. let e = parted b ws v (m.each i v at) h in omega arith)

pub committed_up : (h k : Extent → ℕ) (ps : List Pass) → ((r : Extent) → h r ≤ k r) → committed_sum h ps ≤ committed_sum k ps
committed_up h k ps le = total_up (committed_weight (λ f. h (extent_of f))) (committed_weight (λ f. k (extent_of f))) ps (λ v. total_up (λ f. h (extent_of f)) (λ f. k (extent_of f)) v.work.frames (λ f. le (extent_of f)))

pub committed_both : (h k : Extent → ℕ) (ps : List Pass) → committed_sum (λ r. h r + k r) ps ≡ committed_sum h ps + committed_sum k ps
committed_both h k ps =
    total_same (committed_weight (λ f. h (extent_of f) + k (extent_of f))) (λ v. committed_weight (λ f. h (extent_of f)) v + committed_weight (λ f. k (extent_of f)) v) ps (λ v. total_both (λ f. h (extent_of f)) (λ f. k (extent_of f)) v.work.frames)
    ∙ total_both (committed_weight (λ f. h (extent_of f))) (committed_weight (λ f. k (extent_of f))) ps

-- some range counts, and each sum counts it
pub record HasRange (h : Extent → ℕ) (ps : List Pass) : Type 0 where
  pub range : Extent
  pub some : 0 < h range
  pub counted : (k : Extent → ℕ) → k range ≤ claimed_sum k ps

pub has_range : (h : Extent → ℕ) (ps : List Pass) → 0 < claimed_sum h ps → HasRange h ps
has_range h ps pos =
    let a = has_some (weight (in_entry h)) ps pos in let e = has_some (in_entry h) (entries_of a.one) a.some in let r = has_some h (extents e.one.start e.one.cuts) e.some in
    record {
      range = r.one;
      some = r.some;
      counted = λ k. up (k r.one) (in_entry k e.one) (weight (in_entry k) a.one) (claimed_sum k ps) (total_at k (extents e.one.start e.one.cuts) r.place r.one r.at) (total_at (in_entry k) (entries_of a.one) e.place e.one e.at) (total_at (weight (in_entry k)) ps a.place a.one a.at);
    }
  where
    up : (w x y z : ℕ) → w ≤ x → x ≤ y → y ≤ z → w ≤ z
    up w x y z p q r = omega arith
