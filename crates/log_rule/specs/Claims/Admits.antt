-- What a step on one word does to the words and the passes.
use Rattle.std.specs.Prelude.{◌≡◌, ℕ, List, slice_index, slice_set}
use mathlib.Core.Option.{some}
use lib.ListN.{get_elem?}
use Rattle.publication.specs.declared.pass.Pass.{Pass}

-- whatever stands when the word i becomes f of what it was: the pass with this number becomes one that keeps the rule, and told holds of the word that was found and of that pass
abbrev pub Admits : (List ℕ → List Pass → Type 0) → ℕ → Pass → ℕ → (ℕ → ℕ) → (ℕ → Pass → Type 0) → Type 0
Admits rule id v i f told = (words : List ℕ) (passes : List Pass) → rule words passes → get_elem? passes id ≡ some v
    → (w : Pass) × rule (slice_set words i (f (slice_index words i))) (slice_set passes id w) × told (slice_index words i) w

-- the pass stays one of its log, with its number, its numbers and its parts, and knows the same as a consumer and as a keeper
pub record Same (v w : Pass) : Type 0 where
  pub identity : w.identity ≡ v.identity
  pub start : w.start ≡ v.start
  pub number : w.number ≡ v.number
  pub parts : w.right.parts ≡ v.right.parts
  pub numbers : w.right.numbers ≡ v.right.numbers
  pub reading : w.reading ≡ v.reading
  pub keeping : w.keeping ≡ v.keeping
