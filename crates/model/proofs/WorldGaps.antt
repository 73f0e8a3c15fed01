-- In every run the frames of an image are whole units, and so its computed gap is the first one.
use Rattle.std.proofs.Common.{◌≡◌, ℕ, ◌+◌, ◌-◌, ◌*◌, ◌/◌, ◌%◌, ◌<◌, ◌≤◌, ⊎_elim, List, [], ◌∷◌, None, Some, true, false, refl, sym, subst, min, arith}
use Rattle.std.specs.List.{AllByRecursion}
use Rattle.std.specs.Prelude.{nat_eq}
use Rattle.std.proofs.lemmas.Bool.{cases_Bool, cases_lt, cond-true, cond-false, eqb-true, eqb-false}
use Rattle.theory.specs.Placed.{Frame, frame_length, Placed, covered, Among, place_all}
use Rattle.theory.specs.Entry.{Entry, IsEntry, entry_end, committed}
use Rattle.theory.specs.Tiling.{Tiles}
use Rattle.theory.specs.Units.{IsContiguous}
use Rattle.theory.specs.Gap.{next_start, IsGap, IsAnswer, IsFirstGap}
use Rattle.theory.specs.Image.{Image}
use Rattle.model.specs.Log.{term_of}
use Rattle.model.specs.World.{World}
use Rattle.model.specs.Headline.{Always, HasItsGap, AreGapsTold}
use Rattle.theory.proofs.Lists.{all_at, all_weaker, all_append, each_weaker}
use Rattle.theory.proofs.Frames.{AreCut, are_cut}
use Rattle.theory.proofs.Contiguous.{end_below}
use Rattle.theory.proofs.Gaps.{gap_is}
use Rattle.theory.proofs.Cuts.{span_unit}
use Rattle.model.proofs.WorldSteps.{KeptWorld, KeptImage, opened, every}

abbrev pub IsWhole : Placed → Type 0
IsWhole s = (s.at % 32 ≡ 0) × (0 < covered s)

placed_whole : (p : ℕ) (cuts : List ℕ) (fs : List Frame) → p % 32 ≡ 0 → AreCut cuts fs → AllByRecursion (λ cut. 0 < cut) cuts → AllByRecursion IsWhole (place_all p fs)
placed_whole p cuts [] u h k = tt
placed_whole p [] (f ∷ fs) u h k = absurd h
placed_whole p (cut ∷ cuts) (f ∷ fs) u h k = let same : frame_length f ≡ cut = h.0 in ((u, omega (arith, k.0)), placed_whole (p + (frame_length f + 31) / 32 * 32) cuts fs (omega arith) h.1 k.1)

pub committed_whole : (term p tail : ℕ) (es : List Entry) → p % 32 ≡ 0 → Tiles term p tail es → AllByRecursion IsEntry es → AllByRecursion IsWhole (committed es)
committed_whole term p tail [] u t k = tt
committed_whole term p tail (e ∷ es) u t k =
    all_append IsWhole (place_all e.start e.frames) (committed es)
    (placed_whole e.start e.cuts e.frames (omega (arith, t.0)) (are_cut e.padding e.cuts e.frames k.0.frames) k.0.cuts)
    (committed_whole term (entry_end e) tail es (omega (arith, span_unit e.cuts, t.0)) t.2 k.1)

-- the computed answer at the contiguous end
pub first_gap : (term : ℕ) (frames : List Placed) (high j q : ℕ) → 0 < term → j % 32 ≡ 0 → q ≤ high → AllByRecursion IsWhole frames → IsContiguous frames j q → IsFirstGap term frames high q
first_gap term frames high j q long unit le whole c =
    ⊎_elim
    (λ (t : nat_eq q high ≡ true). subst (IsAnswer term frames high q) (sym (cond-true (nat_eq q high) None (Some (record { start = q; length = next_start q (min high (q / term * term + term)) frames - q })) t)) (eqb-true q high t))
    (λ (f : nat_eq q high ≡ false).
    let apart = eqb-false q high f in
    let end : q ≡ j + 32 * c.units = c.end in
    let below : q < high = less apart in
    let gap : IsGap term frames high q (next_start q (min high (q / term * term + term)) frames) = gap_is term frames high j q long below (omega arith) whole c in
    let at : next_start q (min high (q / term * term + term)) frames ≡ q + (next_start q (min high (q / term * term + term)) frames - q) = omega (arith, gap.long) in
    subst (IsAnswer term frames high q) (sym (cond-false (nat_eq q high) None (Some (record { start = q; length = next_start q (min high (q / term * term + term)) frames - q })) f)) (refl, subst (IsGap term frames high q) at gap))
    (cases_Bool (nat_eq q high))
  where
    less : (q ≡ high → ⊥) → q < high
    less n = ⊎_elim (λ (l : q < high). l) (λ (l : high ≤ q). let same : q ≡ high = omega arith in absurd (n same)) (cases_lt q high)

image_gap : (w : World) → KeptWorld w → (i : Image) → KeptImage w.sender.sent i → HasItsGap (term_of w.log) i
image_gap w k i m q c =
    let whole = committed_whole (term_of w.log) w.log.start w.log.tail w.log.entries k.log.start_unit k.log.tiles k.log.entries in
    let stored : AllByRecursion IsWhole i.stored = all_weaker (λ s. Among s w.sender.sent) IsWhole (λ s a. all_at IsWhole s (committed w.log.entries) whole (all_at (λ x. Among x (committed w.log.entries)) s w.sender.sent k.sender.sent a)) i.stored m.stored in
    first_gap (term_of w.log) i.stored i.high i.join q k.log.sized.term m.unit (end_below i.stored i.join q i.high m.below m.low c) stored c

pub gaps_told : Always AreGapsTold
gaps_told w v events o run =
    let k = every events w v (opened w o) run in
    each_weaker (KeptImage v.sender.sent) (HasItsGap (term_of v.log)) (image_gap v k) v.images k.images
