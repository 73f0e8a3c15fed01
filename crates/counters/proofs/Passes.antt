-- Passes by their numbers: what holds of each after one has changed, or one more was made.
use Rattle.std.proofs.Common.{◌≡◌, ◌≢◌, ℕ, List, [], ◌∷◌, ◌++◌, set, sym, subst, ⊎_elim}
use mathlib.Core.Option.{some}
use lib.ListN.{get_elem?}
use Rattle.atomic_table.proofs.Lists.{at_set, at_snoc}

module _ {A : Type 0} where
  abbrev pub Each : (ℕ → A → Type 0) → List A → Type 0
  Each F views = (port : ℕ) (v : A) → get_elem? views port ≡ some v → F port v

  -- one that has changed, and the others
  pub each_set : (F : ℕ → A → Type 0) (views : List A) (port : ℕ) (w : A) → F port w → ((j : ℕ) (u : A) → j ≢ port → get_elem? views j ≡ some u → F j u) → Each F (set views port w)
  each_set F views port w mine others j u e =
      ⊎_elim (λ (x : (j ≡ port) × (w ≡ u)). let P : ℕ → Type 0 = λ i. F i u in let Q : A → Type 0 = λ a. F port a in subst P (sym x.0) (subst Q x.1 mine))
      (λ (x : (j ≢ port) × (get_elem? views j ≡ some u)). others j u x.0 x.1) (at_set views port j w u e)

  -- a new one, of which it holds whatever its number is
  pub each_new : (F : ℕ → A → Type 0) (views : List A) (w : A) → ((j : ℕ) → F j w) → Each F views → Each F (views ++ w ∷ [])
  each_new F views w mine others j u e = let Q : A → Type 0 = λ a. F j a in ⊎_elim (λ h. others j u h) (λ (x : w ≡ u). subst Q x (mine j)) (at_snoc views w u j e)
