-- Steps that may lack a value, taken apart.
use Rattle.std.proofs.Common.{◌≡◌, Bool, true, false, cond, ◌⊎◌, inl, inr, Option, Some, None, refl, ap}
use Rattle.text.specs.Decimals.{◌>>=◌}

pub either : {A : Type 0} (found : Option A) → (found ≡ None) ⊎ ((x : A) × (found ≡ Some x))
either None = inl refl
either (Some x) = inr (x, refl)

pub bind_some : {A B : Type 0} (found : Option A) (next : A → Option B) (y : B) → (found >>= next) ≡ Some y → (x : A) × (found ≡ Some x) × (next x ≡ Some y)
bind_some None next y e = absurd (cc)
bind_some (Some x) next y e = (x, refl, e)

pub some_bind : {A B : Type 0} (found : Option A) (next : A → Option B) (x : A) → found ≡ Some x → (found >>= next) ≡ next x
some_bind found next x e = ap (λ f. f >>= next) e

pub chosen : {A : Type 0} (test : Bool) (x y z : A) → cond test x y ≡ z → ((test ≡ true) × (x ≡ z)) ⊎ ((test ≡ false) × (y ≡ z))
chosen true x y z e = inl (refl, e)
chosen false x y z e = inr (refl, e)

pub guarded_step : {A : Type 0} (test : Bool) (x : Option A) (y : A) → cond test x None ≡ Some y → (test ≡ true) × (x ≡ Some y)
guarded_step true x y e = (refl, e)
guarded_step false x y e = absurd (cc)
