-- Tests over lists, and the least of some numbers.
use Rattle.std.proofs.Common.{◌≡◌, ℕ, ◌<◌, ◌≤◌, inl, inr, List, [], ◌∷◌, map, length, refl, arith}
use Rattle.std.specs.Prelude.{Bool, false}
use Rattle.std.specs.List.{AllByRecursion, list_any}
use Rattle.std.proofs.lemmas.Bool.{or_from}
use Rattle.theory.specs.Placed.{Among}
use Rattle.theory.proofs.Leasts.{fold_each, fold_first, fold_keeps}
use Rattle.image.specs.Seen.{least}

-- a test that holds of none
pub none_here : {A X : Type 0} (test : A → Bool) (f : X → A) (xs : List X) → ((x : X) → Among x xs → test (f x) ≡ false) → list_any test (map f xs) ≡ false
none_here test f [] h = refl
none_here test f (y ∷ xs) h = or_from (test (f y)) (list_any test (map f xs)) (h y (inl refl)) (none_here test f xs (λ x a. h x (inr a)))

-- ---- the least

-- what holds of each holds of the least
pub all_least : (P : ℕ → Type 0) (ps : List ℕ) → 0 < length ps → AllByRecursion P ps → P (least ps)
all_least P [] l all = absurd (omega arith)
all_least P (p ∷ ps) l all = fold_keeps P p ps all.0 all.1

pub least_each : (ps : List ℕ) → AllByRecursion (λ q. least ps ≤ q) ps
least_each [] = tt
least_each (p ∷ ps) = (fold_first p ps, fold_each p ps)
