-- Under which numbers passes claim: one pass at the most has a number, and a pass claims under its own alone.
use Rattle.std.specs.Prelude.{◌≡◌, ℕ, ◌<◌, ◌≤◌, ◌⊎◌, ◌==◌, cond, List}
use Rattle.std.specs.List.{AllByRecursion}
use mathlib.Core.Option.{some}
use lib.ListN.{get_elem?}
use Rattle.theory.specs.Placed.{Among}
use Rattle.publication.specs.declared.pass.ClaimRange.{ClaimRange}
use Rattle.publication.specs.declared.pass.Pass.{Pass}
use Rattle.log_rule.specs.Claims.Sums.{total}

-- how often a pass has a number
abbrev pub is_number : ℕ → ℕ → ℕ
is_number n m = cond (m == n) 1 0

abbrev pub numbers_as : ℕ → Pass → ℕ
numbers_as n v = total (is_number n) v.right.numbers

-- what it has claimed, and what it may add, is under a number of its own; who has all parts may act for any
pub record Owns (v : Pass) : Type 0 where
  pub claims : v.right.parts < 1024 → AllByRecursion (λ c. Among c.owner v.right.numbers) v.right.claims
  pub armed : v.right.parts < 1024 → v.right.armed ≡ 1 → Among v.number v.right.numbers

pub record AreNumbered (passes : List Pass) : Type 0 where
  pub single : (n : ℕ) → total (numbers_as n) passes ≤ 1
  pub each : (i : ℕ) (v : Pass) → get_elem? passes i ≡ some v → Owns v

-- it has claimed under this number, or may add under it
abbrev pub ClaimsAs : ℕ → Pass → Type 0
ClaimsAs n v = ((c : ClaimRange) × Among c v.right.claims × (c.owner ≡ n)) ⊎ ((v.right.armed ≡ 1) × (v.number ≡ n))
