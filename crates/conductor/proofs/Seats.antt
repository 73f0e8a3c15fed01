-- Passes by their numbers: what holds of each after one has changed, or one more was made.
use Rattle.std.proofs.Common.{◌≡◌, ◌≢◌, ℕ, zero, suc, ◌⊎◌, List, [], ◌∷◌, ◌++◌, length, set, sym, refl, ap, subst, inl, inr, ⊎_elim}
use mathlib.Core.Option.{some, some-injective, some-ne-none}
use lib.ListN.{get_elem?}
use Rattle.crossbeam_queue.proofs.Lists.{at_set}

module _ {A : Type 0} where
  abbrev pub Each : (ℕ → A → Type 0) → List A → Type 0
  Each F views = (port : ℕ) (v : A) → get_elem? views port ≡ some v → F port v

  -- one that has changed, and the others
  pub each_set : (F : ℕ → A → Type 0) (views : List A) (port : ℕ) (w : A) → F port w → ((j : ℕ) (u : A) → j ≢ port → get_elem? views j ≡ some u → F j u) → Each F (set views port w)
  each_set F views port w mine others j u e =
      ⊎_elim (λ (x : (j ≡ port) × (w ≡ u)). let P : ℕ → Type 0 = λ i. F i u in let Q : A → Type 0 = λ a. F port a in subst P (sym x.0) (subst Q x.1 mine))
      (λ (x : (j ≢ port) × (get_elem? views j ≡ some u)). others j u x.0 x.1) (at_set views port j w u e)

  -- a new one stands behind the others
  pub at_new : (l : List A) (a b : A) (j : ℕ) → get_elem? (l ++ a ∷ []) j ≡ some b → (get_elem? l j ≡ some b) ⊎ ((j ≡ length l) × (a ≡ b))
  at_new [] a b zero e = inr (refl, some-injective a b e)
  at_new [] a b (suc j) e = absurd (some-ne-none b (sym e))
  at_new (x ∷ xs) a b zero e = inl e
  at_new (x ∷ xs) a b (suc j) e = ⊎_elim (λ h. inl h) (λ (h : (j ≡ length xs) × (a ≡ b)). inr (ap suc h.0, h.1)) (at_new xs a b j e)

  pub each_new : (F : ℕ → A → Type 0) (views : List A) (w : A) → F (length views) w → Each F views → Each F (views ++ w ∷ [])
  each_new F views w mine others j u e =
      ⊎_elim (λ h. others j u h) (λ (x : (j ≡ length views) × (w ≡ u)). let P : ℕ → Type 0 = λ i. F i u in let Q : A → Type 0 = λ a. F (length views) a in subst P (sym x.0) (subst Q x.1 mine)) (at_new views w u j e)
