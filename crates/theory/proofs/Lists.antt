-- Elements of lists, and what holds of each.
use Rattle.std.proofs.Common.{◌≡◌, ℕ, zero, suc, ◌+◌, ◌<◌, ◌⊎◌, inl, inr, ⊎_elim, List, [], ◌∷◌, ◌++◌, map, Bool, true, false, Option, None, Some, refl, sym, ap, subst, take, drop, arith}
use Rattle.std.specs.Prelude.{slice_get, slice_set, replicate}
use Rattle.std.specs.List.{AllByRecursion, list_any}
use Rattle.std.proofs.lemmas.Bool.{or_left, or_right, or_parts}
use Rattle.theory.specs.Placed.{Among}
use Rattle.theory.specs.Numbered.{IfThere, Each}

pub among_left : {X : Type 0} (x : X) (xs ys : List X) → Among x xs → Among x (xs ++ ys)
among_left x [] ys h = absurd h
among_left x (y ∷ xs) ys (inl e) = inl e
among_left x (y ∷ xs) ys (inr h) = inr (among_left x xs ys h)

pub among_right : {X : Type 0} (x : X) (xs ys : List X) → Among x ys → Among x (xs ++ ys)
among_right x [] ys h = h
among_right x (y ∷ xs) ys h = inr (among_right x xs ys h)

pub among_cases : {X : Type 0} (x : X) (xs ys : List X) → Among x (xs ++ ys) → Among x xs ⊎ Among x ys
among_cases x [] ys h = inr h
among_cases x (y ∷ xs) ys (inl e) = inl (inl e)
among_cases x (y ∷ xs) ys (inr h) = ⊎_elim (λ (a : Among x xs). inl (inr a)) (λ (b : Among x ys). inr b) (among_cases x xs ys h)

-- what holds of each element holds of one of them
pub all_at : {X : Type 0} (P : X → Type 0) (x : X) (xs : List X) → AllByRecursion P xs → Among x xs → P x
all_at P x [] all h = absurd h
all_at P x (y ∷ xs) all (inl e) = subst P (sym e) all.0
all_at P x (y ∷ xs) all (inr h) = all_at P x xs all.1 h

pub all_from : {X : Type 0} (P : X → Type 0) (xs : List X) → ((x : X) → Among x xs → P x) → AllByRecursion P xs
all_from P [] h = tt
all_from P (x ∷ xs) h = (h x (inl refl), all_from P xs (λ y a. h y (inr a)))

pub all_weaker : {X : Type 0} (P Q : X → Type 0) → ((x : X) → P x → Q x) → (xs : List X) → AllByRecursion P xs → AllByRecursion Q xs
all_weaker P Q f [] h = tt
all_weaker P Q f (x ∷ xs) h = (f x h.0, all_weaker P Q f xs h.1)

pub all_append : {X : Type 0} (P : X → Type 0) (xs ys : List X) → AllByRecursion P xs → AllByRecursion P ys → AllByRecursion P (xs ++ ys)
all_append P [] ys h k = k
all_append P (x ∷ xs) ys h k = (h.0, all_append P xs ys h.1 k)

pub all_pushed : {X : Type 0} (P : X → Type 0) (xs : List X) (x : X) → AllByRecursion P xs → P x → AllByRecursion P (xs ++ x ∷ [])
all_pushed P xs x all here = all_append P xs (x ∷ []) all (here, tt)

pub all_front : {X : Type 0} (P : X → Type 0) (xs ys : List X) → AllByRecursion P (xs ++ ys) → AllByRecursion P xs
all_front P [] ys all = tt
all_front P (x ∷ xs) ys all = (all.0, all_front P xs ys all.1)

pub all_behind : {X : Type 0} (P : X → Type 0) (xs ys : List X) → AllByRecursion P (xs ++ ys) → AllByRecursion P ys
all_behind P [] ys all = all
all_behind P (x ∷ xs) ys all = all_behind P xs ys all.1

pub all_map : {X : Type 0} (P : X → Type 0) (g : X → X) (xs : List X) → ((x : X) → Among x xs → P x → P (g x)) → AllByRecursion P xs → AllByRecursion P (map g xs)
all_map P g [] f h = tt
all_map P g (x ∷ xs) f h = (f x (inl refl) h.0, all_map P g xs (λ y a. f y (inr a)) h.1)

pub all_get : {X : Type 0} (P : X → Type 0) (xs : List X) (k : ℕ) (x : X) → slice_get xs k ≡ Some x → AllByRecursion P xs → P x
all_get P [] k x e h = absurd (cc)
all_get P (y ∷ xs) zero x e h = let same : y ≡ x = cc in subst P same h.0
all_get P (y ∷ xs) (suc k) x e h = all_get P xs k x e h.1

pub all_set : {X : Type 0} (P : X → Type 0) (xs : List X) (k : ℕ) (x : X) → P x → AllByRecursion P xs → AllByRecursion P (slice_set xs k x)
all_set P [] k x p h = tt
all_set P (y ∷ xs) zero x p h = (p, h.1)
all_set P (y ∷ xs) (suc k) x p h = (h.0, all_set P xs k x p h.1)

pub all_replicate : {X : Type 0} (P : X → Type 0) (n : ℕ) (x : X) → P x → AllByRecursion P (replicate n x)
all_replicate P zero x p = tt
all_replicate P (suc n) x p = (p, all_replicate P n x p)

-- the k-th element of a part
pub slice_get-take : {X : Type 0} (n : ℕ) (xs : List X) (k : ℕ) → k < n → slice_get (take n xs) k ≡ slice_get xs k
slice_get-take zero xs k h = absurd (omega arith)
slice_get-take (suc n) [] k h = refl
slice_get-take (suc n) (x ∷ xs) zero h = refl
slice_get-take (suc n) (x ∷ xs) (suc k) h = slice_get-take n xs k (omega arith)

pub slice_get-drop : {X : Type 0} (n : ℕ) (xs : List X) (k j : ℕ) → j ≡ n + k → slice_get (drop n xs) k ≡ slice_get xs j
slice_get-drop zero xs k j e = let same : k ≡ j = omega arith in ap (λ i. slice_get xs i) same
slice_get-drop (suc n) [] k j e = refl
slice_get-drop (suc n) (x ∷ xs) k zero e = absurd (omega arith)
slice_get-drop (suc n) (x ∷ xs) k (suc j) e = slice_get-drop n xs k j (omega arith)

-- ---- seats

pub there_weaker : {X : Type 0} (P Q : X → Type 0) → ((x : X) → P x → Q x) → (seat : Option X) → IfThere P seat → IfThere Q seat
there_weaker P Q f None h = tt
there_weaker P Q f (Some x) h = f x h

pub each_weaker : {X : Type 0} (P Q : X → Type 0) → ((x : X) → P x → Q x) → (seats : List (Option X)) → Each P seats → Each Q seats
each_weaker P Q f seats h = all_weaker (IfThere P) (IfThere Q) (there_weaker P Q f) seats h

pub each_get : {X : Type 0} (P : X → Type 0) (seats : List (Option X)) (k : ℕ) (x : X) → slice_get seats k ≡ Some (Some x) → Each P seats → P x
each_get P seats k x e h = all_get (IfThere P) seats k (Some x) e h

pub each_set : {X : Type 0} (P : X → Type 0) (seats : List (Option X)) (k : ℕ) (x : X) → P x → Each P seats → Each P (slice_set seats k (Some x))
each_set P seats k x p h = all_set (IfThere P) seats k (Some x) p h

pub each_leave : {X : Type 0} (P : X → Type 0) (seats : List (Option X)) (k : ℕ) → Each P seats → Each P (slice_set seats k None)
each_leave P seats k h = all_set (IfThere P) seats k None tt h

-- ---- tests

-- a test that holds of one element
pub any_here : {A X : Type 0} (test : A → Bool) (f : X → A) (x : X) (xs : List X) → Among x xs → test (f x) ≡ true → list_any test (map f xs) ≡ true
any_here test f x [] h e = absurd h
any_here test f x (y ∷ xs) (inl d) e = or_left (test (f y)) (list_any test (map f xs)) (subst (λ z. test (f z) ≡ true) d e)
any_here test f x (y ∷ xs) (inr h) e = or_right (test (f y)) (list_any test (map f xs)) (any_here test f x xs h e)

-- a test that holds of none
pub any_false : {A X : Type 0} (test : A → Bool) (f : X → A) (x : X) (xs : List X) → list_any test (map f xs) ≡ false → Among x xs → test (f x) ≡ false
any_false test f x [] e h = absurd h
any_false test f x (y ∷ xs) e (inl d) = subst (λ z. test (f z) ≡ false) (sym d) (or_parts (test (f y)) (list_any test (map f xs)) e).0
any_false test f x (y ∷ xs) e (inr h) = any_false test f x xs (or_parts (test (f y)) (list_any test (map f xs)) e).1 h
