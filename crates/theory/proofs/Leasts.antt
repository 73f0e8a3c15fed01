-- The least of some numbers.
use Rattle.std.proofs.Common.{◌≡◌, ℕ, ◌<◌, ◌≤◌, ⊎_elim, List, [], ◌∷◌, min, subst, arith}
use Rattle.std.specs.List.{AllByRecursion, fold}
use Rattle.std.proofs.lemmas.Bool.{cases_lt}

pub fold_keeps : (P : ℕ → Type 0) (p : ℕ) (ps : List ℕ) → P p → AllByRecursion P ps → P (fold min p ps)
fold_keeps P p [] h all = h
fold_keeps P p (q ∷ ps) h all = fold_keeps P (min p q) ps (either p q h all.0) all.1
  where
    either : (a b : ℕ) → P a → P b → P (min a b)
    either a b x y = ⊎_elim (λ (l : a < b). let e : a ≡ min a b = omega arith in subst P e x) (λ (l : b ≤ a). let e : b ≡ min a b = omega arith in subst P e y) (cases_lt a b)

pub fold_first : (p : ℕ) (ps : List ℕ) → fold min p ps ≤ p
fold_first p [] = omega arith
fold_first p (q ∷ ps) = omega (arith, fold_first (min p q) ps)

pub fold_each : (p : ℕ) (ps : List ℕ) → AllByRecursion (λ q. fold min p ps ≤ q) ps
fold_each p [] = tt
fold_each p (q ∷ ps) = (omega (arith, fold_first (min p q) ps), fold_each (min p q) ps)
