-- A list whose elements go to the end of another one, in their order.
use Rattle.std.proofs.Common.{◌≡◌, zero, suc, List, [], ◌∷◌, ◌++◌, All, length, ap, refl, arith}

pub all_snoc : {A : Type 0} (P : A → Type 0) (xs : List A) (x : A) → All P xs → P x → All P (xs ++ x ∷ [])
all_snoc P [] x h p zero d lt = p
all_snoc P [] x h p (suc k) d lt = absurd (omega (arith, lt))
all_snoc P (y ∷ ys) x h p zero d lt = h zero d (omega arith)
all_snoc P (y ∷ ys) x h p (suc k) d lt = all_snoc P ys x (λ j e below. h (suc j) e (omega (arith, below))) p k d (omega (arith, lt))

pub all_rest : {A : Type 0} (P : A → Type 0) (x : A) (xs : List A) → All P (x ∷ xs) → All P xs
all_rest P x xs h k d lt = h (suc k) d (omega (arith, lt))

pub append_none : {A : Type 0} (xs ys : List A) → length ys ≡ 0 → xs ++ ys ≡ xs
append_none [] [] e = refl
append_none (x ∷ xs) [] e = ap (λ (zs : List _). x ∷ zs) (append_none xs [] e)
append_none xs (y ∷ ys) e = absurd (omega (arith, e))
