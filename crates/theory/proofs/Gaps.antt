-- The gap that is computed is one.
use Rattle.std.proofs.Common.{◌≡◌, ℕ, ◌+◌, ◌-◌, ◌*◌, ◌/◌, ◌%◌, ◌<◌, ◌≤◌, ◌⊎◌, inl, inr, ⊎_elim, List, [], ◌∷◌, Some, None, true, false, cond, min, refl, sym, ap, subst, arith}
use Rattle.std.specs.List.{AllByRecursion}
use Rattle.std.specs.Prelude.{◌↔◌, nat_eq, nat_lt}
use Rattle.std.proofs.lemmas.Bool.{cases_Bool, cases_lt, ltb-true, ltb-false, cond-true, cond-false}
use Rattle.theory.specs.Placed.{Placed, covered, Among}
use Rattle.theory.specs.Units.{HasUnit, IsContiguous}
use Rattle.theory.specs.Gap.{IsGap, gap_of, next_start}
use Rattle.theory.proofs.Lists.{all_at}

-- where the next start stands
data Next (c bound : ℕ) (frames : List Placed) (e : ℕ) : Type 0 where
  at_bound : e ≡ bound → Next c bound frames e
  at_start : (s : Placed) → Among s frames → c < s.at → e ≡ s.at → Next c bound frames e

next_more : (c bound e : ℕ) (s : Placed) (ss : List Placed) → Next c bound ss e → Next c bound (s ∷ ss) e
next_more c bound e s ss (at_bound h) = at_bound h
next_more c bound e s ss (at_start t a l h) = at_start t (inr a) l h

next_is : (c bound : ℕ) (frames : List Placed) → Next c bound frames (next_start c bound frames)
next_is c bound [] = at_bound refl
next_is c bound (s ∷ ss) =
    ⊎_elim
    (λ (t : nat_lt c s.at ≡ true).
    let above : c < s.at = ltb-true c s.at t in
    subst (Next c bound (s ∷ ss)) (sym (cond-true (nat_lt c s.at) (min s.at (next_start c bound ss)) (next_start c bound ss) t))
    (⊎_elim
    (λ (l : s.at < next_start c bound ss). at_start s (inl refl) above (omega arith))
    (λ (l : next_start c bound ss ≤ s.at). let same : next_start c bound ss ≡ min s.at (next_start c bound ss) = omega arith in subst (Next c bound (s ∷ ss)) same (next_more c bound (next_start c bound ss) s ss (next_is c bound ss)))
    (cases_lt s.at (next_start c bound ss))))
    (λ (f : nat_lt c s.at ≡ false). subst (Next c bound (s ∷ ss)) (sym (cond-false (nat_lt c s.at) (min s.at (next_start c bound ss)) (next_start c bound ss) f)) (next_more c bound (next_start c bound ss) s ss (next_is c bound ss)))
    (cases_Bool (nat_lt c s.at))

pub next_le_bound : (c bound : ℕ) (frames : List Placed) → next_start c bound frames ≤ bound
next_le_bound c bound [] = omega arith
next_le_bound c bound (s ∷ ss) =
    ⊎_elim
    (λ (t : nat_lt c s.at ≡ true). subst (λ x. x ≤ bound) (sym (cond-true (nat_lt c s.at) (min s.at (next_start c bound ss)) (next_start c bound ss) t)) (omega (arith, next_le_bound c bound ss)))
    (λ (f : nat_lt c s.at ≡ false). subst (λ x. x ≤ bound) (sym (cond-false (nat_lt c s.at) (min s.at (next_start c bound ss)) (next_start c bound ss) f)) (next_le_bound c bound ss))
    (cases_Bool (nat_lt c s.at))

-- the least of a start and what comes later, at an element
least_le : (c m : ℕ) (t s : Placed) (ts : List Placed) → Among s (t ∷ ts) → (Among s ts → m ≤ s.at) → min t.at m ≤ s.at
least_le c m t s ts (inl e) later = let at : s.at ≡ t.at = ap (λ x. x.at) e in omega arith
least_le c m t s ts (inr b) later = omega (arith, later b)

later_le : (c m : ℕ) (t s : Placed) (ts : List Placed) → t.at ≤ c → c < s.at → Among s (t ∷ ts) → (Among s ts → m ≤ s.at) → m ≤ s.at
later_le c m t s ts low l (inl e) later = let at : s.at ≡ t.at = ap (λ x. x.at) e in absurd (omega arith)
later_le c m t s ts low l (inr b) later = later b

pub next_le : (c bound : ℕ) (frames : List Placed) (s : Placed) → Among s frames → c < s.at → next_start c bound frames ≤ s.at
next_le c bound [] s a l = absurd a
next_le c bound (t ∷ ts) s a l =
    ⊎_elim
    (λ (y : nat_lt c t.at ≡ true). subst (λ x. x ≤ s.at) (sym (cond-true (nat_lt c t.at) (min t.at (next_start c bound ts)) (next_start c bound ts) y)) (least_le c (next_start c bound ts) t s ts a (λ b. next_le c bound ts s b l)))
    (λ (n : nat_lt c t.at ≡ false). subst (λ x. x ≤ s.at) (sym (cond-false (nat_lt c t.at) (min t.at (next_start c bound ts)) (next_start c bound ts) n)) (later_le c (next_start c bound ts) t s ts (ltb-false c t.at n) l a (λ b. next_le c bound ts s b l)))
    (cases_Bool (nat_lt c t.at))

-- and above what lies below the bound and each start
pub next_ge : (c bound m : ℕ) (frames : List Placed) → m ≤ bound → ((s : Placed) → Among s frames → c < s.at → m ≤ s.at) → m ≤ next_start c bound frames
next_ge c bound m frames low least = from (next_start c bound frames) (next_is c bound frames)
  where
    from : (e : ℕ) → Next c bound frames e → m ≤ e
    from e (at_bound h) = omega arith
    from e (at_start s a l h) = omega (arith, least s a l)

-- it depends on which frames begin above c, and not on their order
pub next_same : (c bound : ℕ) (some others : List Placed) → ((s : Placed) → c < s.at → Among s some ↔ Among s others) → next_start c bound some ≡ next_start c bound others
next_same c bound some others same =
    let low : next_start c bound some ≤ next_start c bound others = next_ge c bound (next_start c bound some) others (next_le_bound c bound some) (λ s a l. next_le c bound some s ((same s l).1 a) l) in
    let high : next_start c bound others ≤ next_start c bound some = next_ge c bound (next_start c bound others) some (next_le_bound c bound others) (λ s a l. next_le c bound others s ((same s l).0 a) l) in
    omega arith

-- and so does the gap from c on
pub gap_same : (term high c : ℕ) (some others : List Placed) → ((s : Placed) → c < s.at → Among s some ↔ Among s others) → gap_of term some high c ≡ gap_of term others high c
gap_same term high c some others same = ap (λ end. cond (nat_eq c high) None (Some (record { start = c; length = end - c }))) (next_same c (min high (c / term * term + term)) some others same)

pub gap_is : (term : ℕ) (frames : List Placed) (high j c : ℕ) → 0 < term → c < high → c % 32 ≡ 0 → AllByRecursion (λ s. (s.at % 32 ≡ 0) × (0 < covered s)) frames → IsContiguous frames j c → IsGap term frames high c (next_start c (min high (c / term * term + term)) frames)
gap_is term frames high j c long low unit placed contiguous =
    let bound = min high (c / term * term + term) in
    let e = next_start c bound frames in
    let within : e ≤ bound = next_le_bound c bound frames in
    let base : c < c / term * term + term = omega arith in
    record {
      long = starts e refl (next_is c bound frames);
      below = omega arith;
      one_term = omega arith;
      empty = λ p u from to h. nowhere p u from to h;
      ends = ends e refl (next_is c bound frames);
    }
  where
    starts : (e : ℕ) → e ≡ next_start c (min high (c / term * term + term)) frames → Next c (min high (c / term * term + term)) frames e → c < e
    starts e is (at_bound h) = omega arith
    starts e is (at_start s a l h) = omega arith

    ends : (e : ℕ) → e ≡ next_start c (min high (c / term * term + term)) frames → Next c (min high (c / term * term + term)) frames e → HasUnit frames e ⊎ ((e ≡ high) ⊎ (e ≡ c / term * term + term))
    ends e is (at_bound h) = ⊎_elim (λ (l : high < c / term * term + term). inr (inl (omega arith))) (λ (l : c / term * term + term ≤ high). inr (inr (omega arith))) (cases_lt high (c / term * term + term))
    ends e is (at_start s a l h) = let k = all_at (λ s. (s.at % 32 ≡ 0) × (0 < covered s)) s frames placed a in inl (record { frame = s; among = a; unit = 0; inside = omega (arith, k.1); here = omega arith })

    nowhere : (p : ℕ) → p % 32 ≡ 0 → c ≤ p → p < next_start c (min high (c / term * term + term)) frames → HasUnit frames p → ⊥
    nowhere p u from to h =
        let k = all_at (λ s. (s.at % 32 ≡ 0) × (0 < covered s)) h.frame frames placed h.among in
        let aligned_at : h.frame.at % 32 ≡ 0 = k.0 in
        let here : p ≡ h.frame.at + 32 * h.unit = h.here in
        let inside : 32 * h.unit < covered h.frame = h.inside in
        ⊎_elim
        (λ (l : c < h.frame.at). absurd (omega (arith, next_le c (min high (c / term * term + term)) frames h.frame h.among l)))
        (λ (l : h.frame.at ≤ c). contiguous.next (record { frame = h.frame; among = h.among; unit = (c - h.frame.at) / 32; inside = omega arith; here = omega arith }))
        (cases_lt c h.frame.at)
