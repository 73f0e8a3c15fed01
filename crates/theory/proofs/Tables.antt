-- Elements of a list by their places.
use Rattle.std.proofs.Common.{◌≡◌, ℕ, zero, suc, ◌+◌, ◌<◌, List, [], ◌∷◌, length, Some, refl, sym, ap, ◌∙◌, arith}
use Rattle.std.specs.Prelude.{map, replicate, slice_get, slice_index, slice_index_or, slice_set, sum}
use Rattle.std.specs.Option.{option_map}
use Rattle.std.specs.List.{AllByRecursion}
use Rattle.std.proofs.lemmas.Option.{same_Some, slice_get-get_or, slice_get-map}
use Rattle.std.proofs.lemmas.List.Sums.{sum_by-set}

-- the place that is set, and the others
pub get_put : {X : Type 0} (xs : List X) (k : ℕ) (x : X) → k < length xs → slice_get (slice_set xs k x) k ≡ Some x
get_put [] k x l = absurd (omega (arith, l))
get_put (y ∷ ys) zero x l = refl
get_put (y ∷ ys) (suc k) x l = get_put ys k x (omega (arith, l))

pub got_set : {X : Type 0} (xs : List X) (k : ℕ) (x y : X) → slice_get (slice_set xs k y) k ≡ Some x → x ≡ y
got_set [] k x y h = absurd (cc)
got_set (z ∷ xs) zero x y h = same_Some x y (sym h)
got_set (z ∷ xs) (suc k) x y h = got_set xs k x y h

pub get_other : {X : Type 0} (xs : List X) (k j : ℕ) (x : X) → (j ≡ k → ⊥) → slice_get (slice_set xs k x) j ≡ slice_get xs j
get_other [] k j x other = refl
get_other (y ∷ ys) zero zero x other = absurd (other refl)
get_other (y ∷ ys) zero (suc j) x other = refl
get_other (y ∷ ys) (suc k) zero x other = refl
get_other (y ∷ ys) (suc k) (suc j) x other = get_other ys k j x (λ e. other (ap suc e))

pub got_other : {X : Type 0} (xs : List X) (i j : ℕ) (x y : X) → (i ≡ j → ⊥) → slice_get xs i ≡ Some x → slice_get (slice_set xs j y) i ≡ Some x
got_other xs i j x y other h = get_other xs j i y other ∙ h

pub got_unset : {X : Type 0} (xs : List X) (i j : ℕ) (x y : X) → (i ≡ j → ⊥) → slice_get (slice_set xs j y) i ≡ Some x → slice_get xs i ≡ Some x
got_unset xs i j x y other h = sym (get_other xs j i y other) ∙ h

-- where a place holds what it is set to, nothing changes
pub set_same : {X : Type 0} (xs : List X) (k : ℕ) (x : X) → slice_get xs k ≡ Some x → slice_set xs k x ≡ xs
set_same [] k x h = refl
set_same (y ∷ ys) zero x h = ap (λ z. z ∷ ys) (sym (same_Some y x h))
set_same (y ∷ ys) (suc k) x h = ap (λ zs. y ∷ zs) (set_same ys k x h)

-- what holds of each number holds of the one at a place
pub all_index : (P : ℕ → Type 0) (xs : List ℕ) (k : ℕ) → k < length xs → AllByRecursion P xs → P (slice_index xs k)
all_index P [] k l all = absurd (omega arith)
all_index P (x ∷ xs) zero l all = all.0
all_index P (x ∷ xs) (suc k) l all = all_index P xs k (omega arith) all.1

-- where one number grows, the sum does
pub sum_set : (xs : List ℕ) (k n : ℕ) → k < length xs → sum (slice_set xs k (slice_index xs k + n)) ≡ sum xs + n
sum_set xs k n l = omega (arith, sum_by-set (λ (x : ℕ). x) xs k (slice_index xs k + n) 0 l)

pub map_replicate : {X Y : Type 0} (f : X → Y) (n : ℕ) (x : X) → replicate n (f x) ≡ map f (replicate n x)
map_replicate f zero x = refl
map_replicate f (suc n) x = ap (λ ys. f x ∷ ys) (map_replicate f n x)

pub map_get : {X Y : Type 0} (f : X → Y) (xs : List X) (k : ℕ) (x : X) → slice_get xs k ≡ Some x → slice_get (map f xs) k ≡ Some (f x)
map_get f xs k x h = slice_get-map f xs k ∙ ap (option_map f) h

-- what is read at a place stands there
pub seat_at : {X : Type 0} (xs : List X) (k : ℕ) (x d : X) → x ≡ slice_index_or xs k d → k < length xs → slice_get xs k ≡ Some x
seat_at xs k x d e low = slice_get-get_or xs k d low ∙ ap Some (sym e)
