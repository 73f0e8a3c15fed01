-- The first gap of an image.
use Rattle.std.specs.Prelude.{◌≡◌, ℕ, ◌+◌, ◌-◌, ◌*◌, ◌/◌, ◌%◌, ◌<◌, ◌≤◌, ◌⊎◌, List, [], ◌∷◌, min, nat_eq, nat_lt, if◌then◌else◌, Option, None, Some}
use Rattle.theory.specs.Placed.{Placed}
use Rattle.theory.specs.Units.{HasUnit}

pub record Gap : Type 0 where
  pub start : ℕ
  pub length : ℕ

-- the first start above c, up to the bound
abbrev pub next_start : ℕ → ℕ → List Placed → ℕ
next_start c bound [] = bound
next_start c bound (s ∷ ss) = if nat_lt c s.at then min s.at (next_start c bound ss) else next_start c bound ss

-- from the contiguous end to the next unit, the high-water mark or the end of the term, whichever comes first
abbrev pub gap_of : ℕ → List Placed → ℕ → ℕ → Option Gap
gap_of term frames high c =
    if nat_eq c high
    then None
    else Some (record { start = c; length = next_start c (min high (c / term * term + term)) frames - c })

-- no unit lies in the gap, and it ends at a unit, the mark or the end of its term
pub record IsGap (term : ℕ) (frames : List Placed) (high c end : ℕ) : Type 0 where
  pub long : c < end
  pub below : end ≤ high
  pub one_term : end ≤ c / term * term + term
  pub empty : (p : ℕ) → p % 32 ≡ 0 → c ≤ p → p < end → HasUnit frames p → ⊥
  pub ends : HasUnit frames end ⊎ ((end ≡ high) ⊎ (end ≡ c / term * term + term))

-- what is computed at the contiguous end c: no gap where that is the mark, else the gap
abbrev pub IsAnswer : ℕ → List Placed → ℕ → ℕ → Option Gap → Type 0
IsAnswer term frames high c None = c ≡ high
IsAnswer term frames high c (Some gap) = (gap.start ≡ c) × IsGap term frames high c (c + gap.length)

abbrev pub IsFirstGap : ℕ → List Placed → ℕ → ℕ → Type 0
IsFirstGap term frames high c = IsAnswer term frames high c (gap_of term frames high c)
