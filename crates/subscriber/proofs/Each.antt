-- Steps of a loop that goes over a list and changes each element by a relation.
use Rattle.std.proofs.Common.{◌≡◌, ◌∙◌, ℕ, zero, suc, ◌+◌, ◌<◌, ◌≤◌, List, [], ◌∷◌, ◌++◌, map, length, take, drop, drop-cons, get_or, set, add-one, refl, ap, sym, subst, arith}
use Rattle.std.proofs.lemmas.List.{drop-set-lt, take_more, take_more_set}
use Rattle.std.specs.List.{AllByRecursion, AllZip}

-- two lists of which each element of the first is in a relation to that of the second, and one more
pub zip_append : {X Y : Type 0} (R : X → Y → Type 0) (xs : List X) (ys : List Y) (x : X) (y : Y) → AllZip R xs ys → R x y → AllZip R (xs ++ x ∷ []) (ys ++ y ∷ [])
zip_append R [] [] x y all r = (r, tt)
zip_append R [] (z ∷ ys) x y all r = absurd all
zip_append R (z ∷ xs) [] x y all r = absurd all
zip_append R (z ∷ xs) (w ∷ ys) x y all r = (all.0, zip_append R xs ys x y all.1 r)

pub zip_length : {X Y : Type 0} (R : X → Y → Type 0) (xs : List X) (ys : List Y) → AllZip R xs ys → length ys ≡ length xs
zip_length R [] [] all = refl
zip_length R [] (z ∷ ys) all = absurd all
zip_length R (z ∷ xs) [] all = absurd all
zip_length R (z ∷ xs) (w ∷ ys) all = ap suc (zip_length R xs ys all.1)

pub all_append : {X : Type 0} (P : X → Type 0) (xs : List X) (x : X) → AllByRecursion P xs → P x → AllByRecursion P (xs ++ x ∷ [])
all_append P [] x all p = (p, tt)
all_append P (y ∷ xs) x all p = (all.0, all_append P xs x all.1 p)

-- the element of a list at a place, and those round it
pub parted : {X : Type 0} (xs : List X) (i : ℕ) (d : X) → i < length xs → xs ≡ take i xs ++ get_or xs i d ∷ drop (suc i) xs
parted [] i d l = absurd (omega (arith, l))
parted (x ∷ xs) zero d l = refl
parted (x ∷ xs) (suc i) d l = ap (λ ys. x ∷ ys) (parted xs i d (omega (arith, l)))

pub parted_set : {X : Type 0} (xs : List X) (i : ℕ) (x : X) → i < length xs → set xs i x ≡ take i xs ++ x ∷ drop (suc i) xs
parted_set [] i x l = absurd (omega (arith, l))
parted_set (y ∷ xs) zero x l = refl
parted_set (y ∷ xs) (suc i) x l = ap (λ ys. y ∷ ys) (parted_set xs i x (omega (arith, l)))

same_here : {X : Type 0} (xs ys : List X) (i : ℕ) (d : X) → i < length xs → i < length ys → drop i xs ≡ drop i ys → get_or xs i d ≡ get_or ys i d
same_here xs ys i d lx ly e =
    let x = drop-cons xs i d lx in
    let y = drop-cons ys i d ly in
    cc

rest_same : {X : Type 0} (xs ys : List X) (i : ℕ) (d : X) → i < length xs → i < length ys → drop i xs ≡ drop i ys → drop (suc i) xs ≡ drop (suc i) ys
rest_same xs ys i d lx ly e =
    let x = drop-cons xs i d lx in
    let y = drop-cons ys i d ly in
    cc

-- those behind the one that was changed stay
pub rest_more : {X : Type 0} (xs ys : List X) (i : ℕ) (x d : X) → i < length xs → i < length ys → drop i xs ≡ drop i ys → drop (i + 1) (set xs i x) ≡ drop (i + 1) ys
rest_more xs ys i x d lx ly e = drop-set-lt (i + 1) xs i x (omega arith) ∙ rw (add-one i) (rest_same xs ys i d lx ly e)

-- xs is the list as it is now, ys as it was: the one at this place becomes another
pub zip_more : {X : Type 0} (R : X → X → Type 0) (xs ys : List X) (i : ℕ) (x d : X) → i < length xs → i < length ys → drop i xs ≡ drop i ys
    → AllZip R (take i ys) (take i xs) → R (get_or xs i d) x → AllZip R (take (i + 1) ys) (take (i + 1) (set xs i x))
zip_more R xs ys i x d lx ly rest all r =
    subst (λ zs. AllZip R zs (take (i + 1) (set xs i x))) (sym (take_more ys i d ly))
    (subst (AllZip R (take i ys ++ get_or ys i d ∷ [])) (sym (take_more_set xs i x lx))
    (zip_append R (take i ys) (take i xs) (get_or ys i d) x all (subst (λ y. R y x) (same_here xs ys i d lx ly rest) r)))

pub all_more : {X : Type 0} (P : X → Type 0) (xs : List X) (i : ℕ) (x : X) → i < length xs → AllByRecursion P (take i xs) → P x → AllByRecursion P (take (i + 1) (set xs i x))
all_more P xs i x lx all p = subst (AllByRecursion P) (sym (take_more_set xs i x lx)) (all_append P (take i xs) x all p)

take_whole : {X : Type 0} (xs : List X) (i : ℕ) → length xs ≤ i → take i xs ≡ xs
take_whole [] zero l = refl
take_whole [] (suc i) l = refl
take_whole (x ∷ xs) zero l = absurd (omega (arith, l))
take_whole (x ∷ xs) (suc i) l = ap (λ ys. x ∷ ys) (take_whole xs i (omega (arith, l)))

-- at the end
pub zip_whole : {X : Type 0} (R : X → X → Type 0) (xs ys : List X) (i : ℕ) → length xs ≤ i → length ys ≤ i → AllZip R (take i ys) (take i xs) → AllZip R ys xs
zip_whole R xs ys i lx ly all = subst (λ zs. AllZip R zs xs) (take_whole ys i ly) (subst (AllZip R (take i ys)) (take_whole xs i lx) all)

pub all_whole : {X : Type 0} (P : X → Type 0) (xs : List X) (i : ℕ) → length xs ≤ i → AllByRecursion P (take i xs) → AllByRecursion P xs
all_whole P xs i lx all = subst (AllByRecursion P) (take_whole xs i lx) all

-- what holds of each holds of the one at a place
pub all_at : {X : Type 0} (P : X → Type 0) (xs : List X) (i : ℕ) (d : X) → i < length xs → AllByRecursion P xs → P (get_or xs i d)
all_at P [] i d l all = absurd (omega (arith, l))
all_at P (x ∷ xs) zero d l all = all.0
all_at P (x ∷ xs) (suc i) d l all = all_at P xs i d (omega (arith, l)) all.1

-- and of each of those behind a place
pub all_behind : {X : Type 0} (P : X → Type 0) (xs ys : List X) (i : ℕ) (d : X) → i < length xs → i < length ys → drop i xs ≡ drop i ys → AllByRecursion P ys → P (get_or xs i d)
all_behind P xs ys i d lx ly rest all = subst P (sym (same_here xs ys i d lx ly rest)) (all_at P ys i d ly all)

-- from one relation to another
pub zip_weaker : {X : Type 0} (R S : X → X → Type 0) → ((x y : X) → R x y → S x y) → (xs ys : List X) → AllZip R xs ys → AllZip S xs ys
zip_weaker R S f [] [] all = tt
zip_weaker R S f [] (y ∷ ys) all = absurd all
zip_weaker R S f (x ∷ xs) [] all = absurd all
zip_weaker R S f (x ∷ xs) (y ∷ ys) all = (f x y all.0, zip_weaker R S f xs ys all.1)

-- a fact of each is one of each behind a relation
pub zip_facts : {X : Type 0} (R : X → X → Type 0) (P Q : X → Type 0) → ((x y : X) → R x y → P x → Q y) → (xs ys : List X) → AllZip R xs ys → AllByRecursion P xs → AllByRecursion Q ys
zip_facts R P Q f [] [] all p = tt
zip_facts R P Q f [] (y ∷ ys) all p = absurd all
zip_facts R P Q f (x ∷ xs) [] all p = absurd all
zip_facts R P Q f (x ∷ xs) (y ∷ ys) all p = (f x y all.0 p.0, zip_facts R P Q f xs ys all.1 p.1)

-- each is in a relation to what a rule makes of it
pub zip_map : {X : Type 0} (R : X → X → Type 0) (f : X → X) → ((x : X) → R x (f x)) → (xs : List X) → AllZip R xs (map f xs)
zip_map R f r [] = tt
zip_map R f r (x ∷ xs) = (r x, zip_map R f r xs)
