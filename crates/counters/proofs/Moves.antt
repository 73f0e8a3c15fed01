-- Each move of a pass keeps the rule.
use Rattle.std.proofs.Common.{◌≡◌, ◌≢◌, ℕ, zero, suc, List, [], ◌∷◌, set, true, false, sym, refl, ap, ◌∙◌, subst, ⊎_elim, le_refl, le_trans, zero-le, true≢false}
use mathlib.Core.Option.{some, some-injective, some-ne-none}
use lib.ListN.{get_elem?}
use Rattle.crossbeam_utils.specs.Register.{Turns, Forks, Merges}
use Rattle.atomic_table.proofs.Lists.{at_set, set_again}
use Rattle.counters.specs.declared.readings.Readings.{Readings}
use Rattle.counters.specs.declared.hand.Hand.{Hand}
use Rattle.counters.specs.Order.{zeros, IsInOrder, IsAtMost, IsAmong}
use Rattle.counters.specs.Hands.{nobody, first_writer, teller, after_hearing, after_publishing}
use Rattle.counters.specs.Rule.{Fits, IsCurrent, IsSeen}
use Rattle.counters.proofs.Passes.{each_set, each_new}

never : {A : Type 0} → false ≡ true → A
never e = absurd (true≢false (sym e))

pub same : (r : Readings) → IsAtMost r r
same r = (le_refl _, le_refl _, le_refl _)

further : (r s t : Readings) → IsAtMost r s → IsAtMost s t → IsAtMost r t
further r s t a b = (le_trans a.0 b.0, le_trans a.1 b.1, le_trans a.2 b.2)

one_more : (r y : Readings) (past : List Readings) → IsAmong r past → IsAmong r (y ∷ past)
one_more r y past a = (suc a.0, a.1)

fits_nobody : (writer : ℕ) (past : List Readings) (now : Readings) (port : ℕ) → IsAmong zeros past → Fits writer past now port nobody
fits_nobody writer past now port z = record { known = (zero-le, zero-le, zero-le); told = (zero-le, zero-le, zero-le); known_among = z; told_among = z; published = λ e. never e }

pub begins : IsCurrent zeros (first_writer ∷ [])
begins = record { writer = 0; past = zeros ∷ []; order = (zero-le, zero-le); among = (0, refl); zeros_among = (0, refl); each = one }
  where
    one : (port : ℕ) (v : Hand) → get_elem? (first_writer ∷ []) port ≡ some v → Fits 0 (zeros ∷ []) zeros port v
    one zero v e = subst (λ (u : Hand). Fits 0 (zeros ∷ []) zeros 0 u) (some-injective first_writer v e)
        (record { known = same zeros; told = same zeros; known_among = (0, refl); told_among = (0, refl); published = λ _. (refl, refl, refl) })
    one (suc port) v e = absurd (some-ne-none v (sym e))

-- ---- a step on the cell

pub reads : (port : ℕ) (v : Hand) → Turns IsCurrent port v (λ x. x) IsSeen
reads port v x views h at =
    let mine = h.each port v at in
    let w : Hand = record v { known = x } in (
      w,
      record {
        writer = h.writer;
        past = h.past;
        order = h.order;
        among = h.among;
        zeros_among = h.zeros_among;
        each = each_set (Fits h.writer h.past x) views port w
            (record { known = same x; told = mine.told; known_among = h.among; told_among = mine.told_among; published = λ may. ((mine.published may).0, refl, (mine.published may).2) })
            (λ j u ne e. h.each j u e);
      },
      record {
        published = λ may. (sym (mine.published may).1, subst (λ (l : List Readings). IsAmong v.told l) (sym (mine.published may).2) mine.told_among);
        order = h.order;
        known = mine.known;
        told = mine.told;
        after = refl;
      },
    )

pub writes : (port : ℕ) (v : Hand) (y : Readings) → v.publishes ≡ true → IsInOrder y → IsAtMost v.known y → Turns IsCurrent port v (λ _. y) (λ v _ y w. w ≡ after_publishing v y)
writes port v y may order no_less x views h at =
    let mine = h.each port v at in
    let own = mine.published may in
    let up : IsAtMost x y = subst (λ (r : Readings). IsAtMost r y) own.1 no_less in
    let past : List Readings = y ∷ h.past in
    let w : Hand = after_publishing v y in
    let now : Fits h.writer past y port w = record {
      known = same y;
      told = further v.told x y mine.told up;
      known_among = (0, refl);
      told_among = one_more v.told y h.past mine.told_among;
      published = λ _. (own.0, refl, ap (λ (l : List Readings). y ∷ l) own.2);
    } in
    let others : (j : ℕ) (u : Hand) → j ≢ port → get_elem? views j ≡ some u → Fits h.writer past y j u = λ j u ne e.
    let f = h.each j u e in record {
      known = further u.known x y f.known up;
      told = further u.told x y f.told up;
      known_among = one_more u.known y h.past f.known_among;
      told_among = one_more u.told y h.past f.told_among;
      published = λ theirs. absurd (ne ((f.published theirs).0 ∙ sym own.0));
    } in (
      w,
      record { writer = h.writer; past = past; order = order; among = (0, refl); zeros_among = one_more zeros y h.past h.zeros_among; each = each_set (Fits h.writer past y) views port w now others },
      refl,
    )

-- ---- one pass tells another

pub tells : (port : ℕ) (v : Hand) → Forks IsCurrent port v v (teller v)
tells port v x views h at =
    let mine = h.each port v at in
    record {
      writer = h.writer;
      past = h.past;
      order = h.order;
      among = h.among;
      zeros_among = h.zeros_among;
      each = each_new (Fits h.writer h.past x) (set views port v) (teller v)
          (λ j. record { known = mine.known; told = mine.known; known_among = mine.known_among; told_among = mine.known_among; published = λ e. never e })
          (λ j u e. h.each j u (subst (λ (l : List Hand). get_elem? l j ≡ some u) (set_again views port v at) e));
    }

pub hears : (port : ℕ) (v : Hand) (other : ℕ) (w : Hand) → Merges IsCurrent port v other w (after_hearing v w) nobody
hears port v other w x views h at apart there =
    let mine = h.each port v at in
    let both : Hand = after_hearing v w in
    let theirs : Fits h.writer h.past x other w = ⊎_elim (λ (t : (other ≡ port) × (both ≡ w)). absurd (apart t.0)) (λ (t : (other ≢ port) × (get_elem? views other ≡ some w)). h.each other w t.1) (at_set views port other both w there) in
    let now : Fits h.writer h.past x port both = record { known = mine.known; told = theirs.known; known_among = mine.known_among; told_among = theirs.known_among; published = mine.published } in
    let heard = each_set (Fits h.writer h.past x) views port both now (λ j u ne e. h.each j u e) in
    record {
      writer = h.writer;
      past = h.past;
      order = h.order;
      among = h.among;
      zeros_among = h.zeros_among;
      each = each_set (Fits h.writer h.past x) (set views port both) other nobody (fits_nobody h.writer h.past x other h.zeros_among) (λ j u ne e. heard j u e);
    }
