-- The end of what stands without a gap, computed.
use Rattle.std.proofs.Common.{◌≡◌, ℕ, zero, suc, ◌+◌, ◌-◌, ◌*◌, ◌/◌, ◌%◌, ◌<◌, ◌≤◌, inl, inr, ⊎_elim, List, [], ◌∷◌, Bool, true, false, refl, sym, subst, arith}
use Rattle.std.specs.Prelude.{nat_le, nat_lt, nat_eq, ◌&&◌}
use Rattle.std.proofs.lemmas.Bool.{cases_Bool, cases_lt, leb-true, ltb-true, eqb-true, cond-true, cond-false, le-leb, lt-ltb, eq-eqb, and_from, and_parts, or_cases, or_left, or_right, both_ways}
use Rattle.theory.specs.Placed.{Placed, covered, end_of, Among, Chain, AllAmong}
use Rattle.theory.specs.Bytes.{covers}
use Rattle.theory.specs.Units.{HasUnit, IsContiguous, has_unit, reach, contiguous}
use Rattle.theory.proofs.Lists.{all_at}
use Rattle.theory.proofs.Frames.{AllBelow}
use Rattle.theory.proofs.Follow.{chain_units, one_end}

test_unit : Placed → ℕ → Bool
test_unit s p = covers s p && nat_eq ((p - s.at) % 32) 0

unit_found : (frames all : List Placed) (p : ℕ) → ((s : Placed) → Among s frames → Among s all) → has_unit frames p ≡ true → HasUnit all p
unit_found [] all p within h = absurd (cc)
unit_found (s ∷ ss) all p within h =
    ⊎_elim
    (λ (t : (covers s p && nat_eq ((p - s.at) % 32) 0) ≡ true).
    let both = and_parts (covers s p) (nat_eq ((p - s.at) % 32) 0) t in
    let ends = and_parts (nat_le s.at p) (nat_lt p (end_of s)) both.0 in
    let low : s.at ≤ p = leb-true s.at p ends.0 in
    let high : p < end_of s = ltb-true p (end_of s) ends.1 in
    let unit : (p - s.at) % 32 ≡ 0 = eqb-true ((p - s.at) % 32) 0 both.1 in
    record { frame = s; among = within s (inl refl); unit = (p - s.at) / 32; inside = omega arith; here = omega arith })
    (λ (r : has_unit ss p ≡ true). unit_found ss all p (λ t a. within t (inr a)) r)
    (or_cases (covers s p && nat_eq ((p - s.at) % 32) 0) (has_unit ss p) h)

unit_tested : (s : Placed) (p unit : ℕ) → 32 * unit < covered s → p ≡ s.at + 32 * unit → (covers s p && nat_eq ((p - s.at) % 32) 0) ≡ true
unit_tested s p unit inside here =
    and_from (covers s p) (nat_eq ((p - s.at) % 32) 0)
    (and_from (nat_le s.at p) (nat_lt p (end_of s)) (le-leb s.at p (omega arith)) (lt-ltb p (end_of s) (omega arith)))
    (eq-eqb ((p - s.at) % 32) 0 (omega arith))

unit_among : (frames : List Placed) (p : ℕ) (s : Placed) → Among s frames → (unit : ℕ) → 32 * unit < covered s → p ≡ s.at + 32 * unit → has_unit frames p ≡ true
unit_among [] p s a unit inside here = absurd a
unit_among (t ∷ ts) p s (inl e) unit inside here =
    or_left (covers t p && nat_eq ((p - t.at) % 32) 0) (has_unit ts p) (subst (λ x. (covers x p && nat_eq ((p - x.at) % 32) 0) ≡ true) e (unit_tested s p unit inside here))
unit_among (t ∷ ts) p s (inr a) unit inside here =
    or_right (covers t p && nat_eq ((p - t.at) % 32) 0) (has_unit ts p) (unit_among ts p s a unit inside here)

pub unit_below : (frames : List Placed) (high p : ℕ) → AllBelow high frames → HasUnit frames p → p + 32 ≤ high
unit_below frames high p below u =
    let inside : 32 * u.unit < covered u.frame = u.inside in
    let here : p ≡ u.frame.at + 32 * u.unit = u.here in
    let end : end_of u.frame ≤ high = all_at (λ s. end_of s ≤ high) u.frame frames below u.among in
    omega arith

pub reach_is : (fuel : ℕ) (frames : List Placed) (j n high : ℕ) → AllBelow high frames → high ≤ j + 32 * (n + fuel) → ((k : ℕ) → k < n → HasUnit frames (j + 32 * k)) → IsContiguous frames j (reach fuel frames (j + 32 * n))
reach_is zero frames j n high below enough all = record {
  units = n;
  end = refl;
  all = all;
  next = λ u. let end : (j + 32 * n) + 32 ≤ high = unit_below frames high (j + 32 * n) below u in omega arith;
}
reach_is (suc fuel) frames j n high below enough all =
    ⊎_elim
    (λ (t : has_unit frames (j + 32 * n) ≡ true).
    let here : HasUnit frames (j + 32 * n) = unit_found frames frames (j + 32 * n) (λ s a. a) t in
    let next : j + 32 * (n + 1) ≡ j + 32 * n + 32 = omega arith in
    let more : (k : ℕ) → k < n + 1 → HasUnit frames (j + 32 * k) = λ k h. ⊎_elim (λ (l : k < n). all k l) (λ (l : n ≤ k). let same : n ≡ k = omega arith in subst (λ x. HasUnit frames (j + 32 * x)) same here) (cases_lt k n) in
    subst (λ x. IsContiguous frames j x) (sym (cond-true (has_unit frames (j + 32 * n)) (reach fuel frames (j + 32 * n + 32)) (j + 32 * n) t))
    (subst (λ x. IsContiguous frames j (reach fuel frames x)) next (reach_is fuel frames j (n + 1) high below (omega arith) more)))
    (λ (f : has_unit frames (j + 32 * n) ≡ false).
    subst (λ x. IsContiguous frames j x) (sym (cond-false (has_unit frames (j + 32 * n)) (reach fuel frames (j + 32 * n + 32)) (j + 32 * n) f))
    (record { units = n; end = refl; all = all; next = λ u. both_ways (has_unit frames (j + 32 * n)) f (unit_among frames (j + 32 * n) u.frame u.among u.unit u.inside u.here) }))
    (cases_Bool (has_unit frames (j + 32 * n)))

pub contiguous_is : (frames : List Placed) (j high : ℕ) → AllBelow high frames → IsContiguous frames j (contiguous frames j high)
contiguous_is frames j high below =
    let start : j + 32 * 0 ≡ j = omega arith in
    subst (λ x. IsContiguous frames j (reach ((high - j + 31) / 32) frames x)) start (reach_is ((high - j + 31) / 32) frames j 0 high below (omega arith) (λ k h. absurd (omega arith)))

pub end_below : (frames : List Placed) (j q high : ℕ) → AllBelow high frames → j ≤ high → IsContiguous frames j q → q ≤ high
end_below frames j q high below le c = at c.units c.end c.all
  where
    at : (n : ℕ) → q ≡ j + 32 * n → ((k : ℕ) → k < n → HasUnit frames (j + 32 * k)) → q ≤ high
    at zero e all = omega arith
    at (suc n) e all = let last : (j + 32 * n) + 32 ≤ high = unit_below frames high (j + 32 * n) below (all n (omega arith)) in omega arith

pub chain_bound : (frames : List Placed) (j q c : ℕ) (read : List Placed) → IsContiguous frames j q → Chain j c read → AllAmong frames read → c ≤ q
chain_bound frames j q c read end chain among =
    ⊎_elim
    (λ (l : q < c). let e : q ≡ j + 32 * end.units = end.end in absurd (end.next (subst (λ x. HasUnit frames x) (sym e) (chain_units frames j c read chain among end.units (omega arith)))))
    (λ (l : c ≤ q). l)
    (cases_lt q c)

-- the contiguous end is the computed one
pub contiguous_only : (frames : List Placed) (j high q : ℕ) → AllBelow high frames → IsContiguous frames j q → q ≡ contiguous frames j high
contiguous_only frames j high q below c = one_end frames j q (contiguous frames j high) c (contiguous_is frames j high below)
