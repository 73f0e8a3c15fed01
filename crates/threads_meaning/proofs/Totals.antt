-- Sums over passes of which one has changed, or one more is there.
use Rattle.std.proofs.Common.{◌≡◌, ◌≢◌, ℕ, zero, suc, ◌+◌, List, [], ◌∷◌, ◌++◌, set, sym, refl, ap, arith}
use mathlib.Core.Option.{some, some-ne-none}
use lib.ListN.{get_elem?}
use Rattle.log_rule.specs.Claims.Sums.{total}
use Rattle.log_rule.proofs.Claimed.Totals.{total_append, total_set}

pub total_none : {A : Type 0} (f : A → ℕ) (xs : List A) → ((j : ℕ) (u : A) → get_elem? xs j ≡ some u → f u ≡ 0) → total f xs ≡ 0
total_none f [] none = refl
total_none f (x ∷ xs) none = let a = none 0 x refl in let r = total_none f xs (λ j. none (suc j)) in omega arith

-- all others are 0
pub total_alone : {A : Type 0} (f : A → ℕ) (xs : List A) (i : ℕ) (v w : A) → get_elem? xs i ≡ some v → ((j : ℕ) (u : A) → j ≢ i → get_elem? xs j ≡ some u → f u ≡ 0) → total f (set xs i w) ≡ f w
total_alone f [] i v w at none = absurd (some-ne-none v (sym at))
total_alone f (x ∷ xs) zero v w at none = let r = total_none f xs (λ j u a. none (suc j) u (λ e. omega arith) a) in omega arith
total_alone f (x ∷ xs) (suc i) v w at none = let a = none 0 x (λ e. omega arith) refl in let r = total_alone f xs i v w at (λ j u ne. none (suc j) u (λ e. ne (omega arith))) in omega arith

pub total_kept : {A : Type 0} (f : A → ℕ) (xs : List A) (i : ℕ) (v w : A) → get_elem? xs i ≡ some v → f w ≡ f v → total f (set xs i w) ≡ total f xs
total_kept f xs i v w at e = let a = total_set f xs i v w at in omega arith

pub total_more : {A : Type 0} (f : A → ℕ) (xs : List A) (i : ℕ) (v w : A) (n : ℕ) → get_elem? xs i ≡ some v → f w ≡ f v + n → total f (set xs i w) ≡ total f xs + n
total_more f xs i v w n at e = let a = total_set f xs i v w at in omega arith

-- one is cut in two
pub total_split : {A : Type 0} (f : A → ℕ) (xs : List A) (i : ℕ) (v l r : A) → get_elem? xs i ≡ some v → f l + f r ≡ f v → total f (set xs i l ++ r ∷ []) ≡ total f xs
total_split f xs i v l r at e = let a = total_set f xs i v l at in let c = total_append f (set xs i l) (r ∷ []) in sums (total f (set xs i l ++ r ∷ [])) (total f (set xs i l)) (f v) (total f xs) (f l) (f r) a c e
  where
    sums : (all most v xs l r : ℕ) → most + v ≡ xs + l → all ≡ most + (r + 0) → l + r ≡ v → all ≡ xs
    sums all most v xs l r a c e = omega arith

pub at_other : {A : Type 0} (xs : List A) (i j : ℕ) (a w : A) → j ≢ i → get_elem? xs j ≡ some w → get_elem? (set xs i a) j ≡ some w
at_other [] i j a w ne at = absurd (some-ne-none w (sym at))
at_other (x ∷ xs) zero zero a w ne at = absurd (ne refl)
at_other (x ∷ xs) zero (suc j) a w ne at = at
at_other (x ∷ xs) (suc i) zero a w ne at = at
at_other (x ∷ xs) (suc i) (suc j) a w ne at = at_other xs i j a w (λ e. ne (ap suc e)) at

-- two become one and another
pub total_join : {A : Type 0} (f : A → ℕ) (xs : List A) (i j : ℕ) (v w l r : A) → get_elem? xs i ≡ some v → j ≢ i → get_elem? xs j ≡ some w → f l + f r ≡ f v + f w → total f (set (set xs i l) j r) ≡ total f xs
total_join f xs i j v w l r at ne there e = let a = total_set f xs i v l at in let c = total_set f (set xs i l) j w r (at_other xs i j l w ne there) in sums (total f (set (set xs i l) j r)) (total f (set xs i l)) (f v) (f w) (total f xs) (f l) (f r) a c e
  where
    sums : (all most v w xs l r : ℕ) → most + v ≡ xs + l → all + w ≡ most + r → l + r ≡ v + w → all ≡ xs
    sums all most v w xs l r a c e = omega arith
