-- Sums, and tilings.
use Rattle.std.proofs.Common.{◌≡◌, ◌≢◌, ℕ, zero, suc, ◌+◌, ◌-◌, ◌≤◌, min, List, [], ◌∷◌, ◌++◌, map, set, sym, refl, ap, ◌∙◌, arith}
use Rattle.std.specs.List.{flat_map}
use mathlib.Core.Option.{some, some-injective, some-ne-none}
use lib.ListN.{get_elem?}
use Rattle.theory.specs.Entry.{Entry, entry_end, length_of}
use Rattle.theory.specs.Tiling.{Tiles}
use Rattle.log_rule.specs.Claims.Sums.{covers, total}

pub total_set : {A : Type 0} (f : A → ℕ) (xs : List A) (i : ℕ) (v w : A) → get_elem? xs i ≡ some v → total f (set xs i w) + f v ≡ total f xs + f w
total_set f [] i v w at = absurd (some-ne-none v (sym at))
total_set f (x ∷ xs) zero v w at = let e : f x ≡ f v = ap f (some-injective x v at) in omega arith
total_set f (x ∷ xs) (suc i) v w at = let e = total_set f xs i v w at in omega arith

pub total_append : {A : Type 0} (f : A → ℕ) (xs ys : List A) → total f (xs ++ ys) ≡ total f xs + total f ys
total_append f [] ys = omega arith
total_append f (x ∷ xs) ys = let e = total_append f xs ys in omega arith

pub total_at : {A : Type 0} (f : A → ℕ) (xs : List A) (i : ℕ) (v : A) → get_elem? xs i ≡ some v → f v ≤ total f xs
total_at f [] i v at = absurd (some-ne-none v (sym at))
total_at f (x ∷ xs) zero v at = let e : f x ≡ f v = ap f (some-injective x v at) in omega arith
total_at f (x ∷ xs) (suc i) v at = let e = total_at f xs i v at in omega arith

pub both_at : {A : Type 0} (f : A → ℕ) (xs : List A) (i j : ℕ) (v u : A) → j ≢ i → get_elem? xs i ≡ some v → get_elem? xs j ≡ some u → f v + f u ≤ total f xs
both_at f [] i j v u ne a b = absurd (some-ne-none v (sym a))
both_at f (x ∷ xs) zero zero v u ne a b = absurd (ne refl)
both_at f (x ∷ xs) zero (suc j) v u ne a b = let e : f x ≡ f v = ap f (some-injective x v a) in let l = total_at f xs j u b in omega arith
both_at f (x ∷ xs) (suc i) zero v u ne a b = let e : f x ≡ f u = ap f (some-injective x u b) in let l = total_at f xs i v a in omega arith
both_at f (x ∷ xs) (suc i) (suc j) v u ne a b = let l = both_at f xs i j v u (λ e. ne (ap suc e)) a b in omega arith

pub total_le : {A : Type 0} (f g : A → ℕ) (xs : List A) → ((i : ℕ) (v : A) → get_elem? xs i ≡ some v → f v ≤ g v) → total f xs ≤ total g xs
total_le f g [] le = omega arith
total_le f g (x ∷ xs) le = let a = le 0 x refl in let b = total_le f g xs (λ i. le (suc i)) in omega arith

pub total_map : {A B : Type 0} (f : B → ℕ) (g : A → B) (xs : List A) → total f (map g xs) ≡ total (λ x. f (g x)) xs
total_map f g [] = refl
total_map f g (x ∷ xs) = ap (λ (n : ℕ). f (g x) + n) (total_map f g xs)

pub total_flat : {A B : Type 0} (f : B → ℕ) (g : A → List B) (xs : List A) → total f (flat_map g xs) ≡ total (λ x. total f (g x)) xs
total_flat f g [] = refl
total_flat f g (x ∷ xs) = total_append f (g x) (flat_map g xs) ∙ ap (λ (n : ℕ). total f (g x) + n) (total_flat f g xs)

pub total_same : {A : Type 0} (f g : A → ℕ) (xs : List A) → ((x : A) → f x ≡ g x) → total f xs ≡ total g xs
total_same f g [] e = refl
total_same f g (x ∷ xs) e = λ i. e x i + total_same f g xs e i

-- ---- tilings

pub tiles_up : (n p q : ℕ) (es : List Entry) → Tiles n p q es → p ≤ q
tiles_up n p q [] t = let e : q ≡ p = t in omega arith
tiles_up n p q (e ∷ es) t = let s : e.start ≡ p = t.0 in let a = tiles_up n (entry_end e) q es t.2 in omega arith

pub extent_of : (n p q : ℕ) (es : List Entry) → Tiles n p q es → p + total length_of es ≡ q
extent_of n p q [] t = let e : q ≡ p = t in omega arith
extent_of n p q (e ∷ es) t = let s : e.start ≡ p = t.0 in let r = extent_of n (entry_end e) q es t.2 in omega arith

-- none of its entries ends behind the end
pub none_behind : (n p q : ℕ) (es : List Entry) → Tiles n p q es → total (λ e. entry_end e - q) es ≡ 0
none_behind n p q [] t = refl
none_behind n p q (e ∷ es) t = let a = tiles_up n (entry_end e) q es t.2 in let r = none_behind n (entry_end e) q es t.2 in omega arith

-- a position lies in one entry of a tiling, or outside its ends
pub cover_of : (n p q : ℕ) (es : List Entry) → Tiles n p q es → (x : ℕ) → total (λ e. covers x e.start (length_of e)) es ≡ min 1 (min (x + 1 - p) (q - x))
cover_of n p q [] t x = let e : q ≡ p = t in omega arith
cover_of n p q (e ∷ es) t x = let up = tiles_up n (entry_end e) q es t.2 in let r = cover_of n (entry_end e) q es t.2 x in over e.start (length_of e) p q (total (λ d. covers x d.start (length_of d)) es) x t.0 up r
  where
    over : (s m p q rest x : ℕ) → s ≡ p → s + m ≤ q → rest ≡ min 1 (min (x + 1 - (s + m)) (q - x)) → covers x s m + rest ≡ min 1 (min (x + 1 - p) (q - x))
    over s m p q rest x e up r = omega arith

-- ---- one that has all of a sum

total_none : {A : Type 0} (f g : A → ℕ) (xs : List A) → total f xs ≡ 0 → ((j : ℕ) (w : A) → get_elem? xs j ≡ some w → f w ≡ 0 → g w ≡ 0) → total g xs ≡ 0
total_none f g [] z off = refl
total_none f g (x ∷ xs) z off = let a = off 0 x refl (omega arith) in let b = total_none f g xs (omega arith) (λ j. off (suc j)) in omega arith

-- where v has all of f, and g is 0 where f is, v has all of g
pub total_one : {A : Type 0} (f g : A → ℕ) (xs : List A) (i : ℕ) (v : A) → get_elem? xs i ≡ some v → total f xs ≡ f v → ((j : ℕ) (w : A) → get_elem? xs j ≡ some w → f w ≡ 0 → g w ≡ 0) → total g xs ≡ g v
total_one f g [] i v at all off = absurd (some-ne-none v (sym at))
total_one f g (x ∷ xs) zero v at all off = let e = some-injective x v at in let a : f x ≡ f v = ap f e in let b : g x ≡ g v = ap g e in let c = total_none f g xs (omega arith) (λ j. off (suc j)) in omega arith
total_one f g (x ∷ xs) (suc i) v at all off = let l = total_at f xs i v at in let a = off 0 x refl (omega arith) in let b = total_one f g xs i v at (omega arith) (λ j. off (suc j)) in omega arith
