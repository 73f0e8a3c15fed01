-- Where the first gap ends.
use Rattle.std.proofs.Common.{◌≡◌, ℕ, ◌+◌, ◌-◌, ◌*◌, ◌/◌, ◌%◌, ◌<◌, ◌≤◌, ◌⊎◌, inl, inr, ⊎_elim, List, min, None, Some, sym, ap, ◌∙◌, subst, arith, eq-eqb, ne_eqb}
use Rattle.std.specs.Prelude.{nat_eq}
use Rattle.std.specs.List.{AllByRecursion}
use Rattle.std.proofs.lemmas.Bool.{cases_lt, cond-true, cond-false}
use Rattle.theory.specs.Placed.{Placed, covered}
use Rattle.theory.specs.Units.{HasUnit}
use Rattle.theory.specs.Gap.{IsGap, gap_of, next_start}
use Rattle.theory.proofs.Gaps.{next_ge, next_le, next_le_bound}
use Rattle.theory.proofs.Lists.{all_at}
use Rattle.image.specs.Looks.{IsFirstHeld}

at_bound : (frames : List Placed) (high term_end end : ℕ) → end ≡ min high term_end → HasUnit frames end ⊎ ((end ≡ high) ⊎ (end ≡ term_end))
at_bound frames high term_end end e = ⊎_elim (λ (l : high < term_end). inr (inl (omega arith))) (λ (l : term_end ≤ high). inr (inr (omega arith))) (cases_lt high term_end)

-- what is found is above the contiguous end
above : (frames : List Placed) (c bound end : ℕ) → c < bound → (HasUnit frames c → ⊥) → IsFirstHeld frames c bound end → c < end
above frames c bound end some free first =
    let from : c ≤ end = first.from in
    ⊎_elim
    (λ (l : c < end). l)
    (λ (l : end ≤ c).
    let same : end ≡ c = omega arith in
    ⊎_elim (λ (u : HasUnit frames end). absurd (free (subst (HasUnit frames) same u))) (λ (e : end ≡ bound). absurd (omega arith)) first.ends)
    (cases_lt c end)

pub is_gap : (term : ℕ) (frames : List Placed) (high c bound end : ℕ) → c < high → c < c / term * term + term → bound ≡ min high (c / term * term + term) → (HasUnit frames c → ⊥) → IsFirstHeld frames c bound end → IsGap term frames high c end
is_gap term frames high c bound end over inside b free first =
    let within : end ≤ bound = first.within in
    record {
      long = above frames c bound end (omega arith) free first;
      below = omega arith;
      one_term = omega arith;
      empty = first.empty;
      ends = ⊎_elim (λ (u : HasUnit frames end). inl u) (λ (e : end ≡ bound). at_bound frames high (c / term * term + term) end (e ∙ b)) first.ends;
    }

-- the end is the computed one
pub computed : (frames : List Placed) (c bound end : ℕ) → AllByRecursion (λ s. 0 < covered s) frames → AllByRecursion (λ s. s.at % 32 ≡ 0) frames → c % 32 ≡ 0 → c < bound → (HasUnit frames c → ⊥) → IsFirstHeld frames c bound end → end ≡ next_start c bound frames
computed frames c bound end full units unit some free first =
    let within : end ≤ bound = first.within in
    let over : c < end = above frames c bound end some free first in
    let low : end ≤ next_start c bound frames = next_ge c bound end frames within (λ s a l.
    ⊎_elim
    (λ (h : s.at < end).
    let some_s : 0 < covered s = all_at (λ x. 0 < covered x) s frames full a in
    absurd (first.empty s.at (all_at (λ x. x.at % 32 ≡ 0) s frames units a) (omega arith) h (record { frame = s; among = a; unit = 0; inside = omega arith; here = omega arith })))
    (λ (h : end ≤ s.at). h)
    (cases_lt s.at end)) in
    let high : next_start c bound frames ≤ end = ⊎_elim (λ (u : HasUnit frames end). at_unit u) (λ (e : end ≡ bound). let most : next_start c bound frames ≤ bound = next_le_bound c bound frames in omega arith) first.ends in
    omega arith
  where
    at_unit : HasUnit frames end → next_start c bound frames ≤ end
    at_unit u =
        let here : end ≡ u.frame.at + 32 * u.unit = u.here in
        let inside : 32 * u.unit < covered u.frame = u.inside in
        let over : c < end = above frames c bound end some free first in
        let whole : u.frame.at % 32 ≡ 0 = all_at (λ x. x.at % 32 ≡ 0) u.frame frames units u.among in
        let behind : c < u.frame.at = ⊎_elim (λ (l : c < u.frame.at). l) (λ (l : u.frame.at ≤ c). absurd (free (record { frame = u.frame; among = u.among; unit = (c - u.frame.at) / 32; inside = omega arith; here = omega arith }))) (cases_lt c u.frame.at) in
        let least : next_start c bound frames ≤ u.frame.at = next_le c bound frames u.frame u.among behind in
        omega arith

-- the answer there
pub none_is : (term : ℕ) (frames : List Placed) (high c q : ℕ) → c ≡ q → q ≡ high → None ≡ gap_of term frames high c
none_is term frames high c q same e = sym (cond-true (nat_eq c high) None (Some (record { start = c; length = next_start c (min high (c / term * term + term)) frames - c })) (eq-eqb c high (same ∙ e)))

pub some_is : (term : ℕ) (frames : List Placed) (high c q end : ℕ) → c ≡ q → (q ≡ high → ⊥) → end ≡ next_start q (min high (q / term * term + term)) frames → Some (record { start = q; length = end - q }) ≡ gap_of term frames high c
some_is term frames high c q end same n e =
    ap (λ x. Some (record { start = q; length = x - q })) e
    ∙ sym (cond-false (nat_eq q high) None (Some (record { start = q; length = next_start q (min high (q / term * term + term)) frames - q })) (ne_eqb q high n))
    ∙ ap (gap_of term frames high) (sym same)
