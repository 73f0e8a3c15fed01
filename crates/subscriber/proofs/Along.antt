-- A loop over a list that changes each element so: the first so many are changed, and those behind them are as they were.
use Rattle.std.proofs.Common.{◌≡◌, ℕ, zero, suc, ◌+◌, ◌<◌, ◌≤◌, List, [], ◌∷◌, length, get_or, set, sym, ap, subst, add-one, arith}
use Rattle.std.specs.List.{AllByRecursion, AllZip}

-- the first so many became others so
abbrev pub Along : {X : Type 0} → (X → X → Type 0) → ℕ → List X → List X → Type 0
Along R zero old now = now ≡ old
Along R (suc i) [] now = now ≡ []
Along R (suc i) (x ∷ xs) [] = ⊥
Along R (suc i) (x ∷ xs) (y ∷ ys) = R x y × Along R i xs ys

module _ {X : Type 0} (R : X → X → Type 0) where
  one_along : (i : ℕ) (old now : List X) (d v : X) → Along R i old now → i < length now → R (get_or now i d) v → Along R (suc i) old (set now i v)
  one_along zero [] now d v same low one = absurd (let e = ap length same in omega (arith, e, low))
  one_along zero (x ∷ xs) [] d v same low one = absurd (omega (arith, low))
  one_along zero (x ∷ xs) (y ∷ ys) d v same low one =
      let here : y ≡ x = cc in
      let rest : ys ≡ xs = cc in
      (subst (λ (z : X). R z v) here one, rest)
  one_along (suc i) [] now d v same low one = absurd (let e = ap length same in omega (arith, e, low))
  one_along (suc i) (x ∷ xs) [] d v same low one = absurd same
  one_along (suc i) (x ∷ xs) (y ∷ ys) d v same low one = (same.0, one_along i xs ys d v same.1 (omega (arith, low)) one)

  -- the next one does, too
  pub more_along : (i : ℕ) (old now : List X) (d v : X) → Along R i old now → i < length now → R (get_or now i d) v → Along R (i + 1) old (set now i v)
  more_along i old now d v same low one = subst (λ (n : ℕ). Along R n old (set now i v)) (sym (add-one i)) (one_along i old now d v same low one)

  -- all have
  pub all_along : (i : ℕ) (old now : List X) → Along R i old now → length now ≤ i → AllZip R old now
  all_along zero [] [] same end = tt
  all_along zero [] (y ∷ ys) same end = absurd (omega (arith, end))
  all_along zero (x ∷ xs) [] same end = absurd cc
  all_along zero (x ∷ xs) (y ∷ ys) same end = absurd (omega (arith, end))
  all_along (suc i) [] [] same end = tt
  all_along (suc i) [] (y ∷ ys) same end = absurd cc
  all_along (suc i) (x ∷ xs) [] same end = absurd same
  all_along (suc i) (x ∷ xs) (y ∷ ys) same end = (same.0, all_along i xs ys same.1 (omega (arith, end)))

  -- each is so to itself
  pub each_still : ((x : X) → R x x) → (xs : List X) → AllZip R xs xs
  each_still still [] = tt
  each_still still (x ∷ xs) = (still x, each_still still xs)

  pub each_on : ((x y z : X) → R x y → R y z → R x z) → (xs ys zs : List X) → AllZip R xs ys → AllZip R ys zs → AllZip R xs zs
  each_on on [] [] zs a b = b
  each_on on [] (y ∷ ys) zs a b = absurd a
  each_on on (x ∷ xs) [] zs a b = absurd a
  each_on on (x ∷ xs) (y ∷ ys) [] a b = absurd b
  each_on on (x ∷ xs) (y ∷ ys) (z ∷ zs) a b = (on x y z a.0 b.0, each_on on xs ys zs a.1 b.1)

  -- one more became another
  pub one_on : ((x y z : X) → R x y → R y z → R x z) → (old now : List X) (i : ℕ) (d v : X) → AllZip R old now → i < length now → R (get_or now i d) v → AllZip R old (set now i v)
  one_on on [] [] i d v all low one = absurd (omega (arith, low))
  one_on on [] (n ∷ ns) i d v all low one = absurd all
  one_on on (o ∷ os) [] i d v all low one = absurd all
  one_on on (o ∷ os) (n ∷ ns) zero d v all low one = (on o n v all.0 one, all.1)
  one_on on (o ∷ os) (n ∷ ns) (suc i) d v all low one = (all.0, one_on on os ns i d v all.1 (omega (arith, low)) one)

-- what each is stays where one becomes another that is so
pub with_place : {X : Type 0} (P : X → Type 0) (xs : List X) (i : ℕ) (v : X) → AllByRecursion P xs → P v → AllByRecursion P (set xs i v)
with_place P [] i v all one = all
with_place P (x ∷ xs) zero v all one = (one, all.1)
with_place P (x ∷ xs) (suc i) v all one = (all.0, with_place P xs i v all.1 one)
