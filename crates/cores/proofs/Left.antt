-- What is left of a list from a place on.
use Rattle.std.proofs.Common.{◌≡◌, ℕ, zero, suc, List, [], ◌∷◌, drop, ap}
use Rattle.std.specs.Prelude.{None, Some, slice_get}
use Rattle.std.proofs.Math.Seq.{drop-nil}

pub none_at : {X : Type 0} (xs : List X) (n : ℕ) → slice_get xs n ≡ None → drop n xs ≡ []
none_at [] n e = drop-nil n
none_at (x ∷ xs) zero e = absurd (cc)
none_at (x ∷ xs) (suc n) e = none_at xs n e

pub some_at : {X : Type 0} (xs : List X) (n : ℕ) (x : X) → slice_get xs n ≡ Some x → drop n xs ≡ x ∷ drop (suc n) xs
some_at [] n x e = absurd (cc)
some_at (y ∷ xs) zero x e = (let same : y ≡ x = cc in ap (λ z. z ∷ xs) same)
some_at (y ∷ xs) (suc n) x e = some_at xs n x e
