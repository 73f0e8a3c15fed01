-- How far a sender may send.
use Rattle.std.specs.Prelude.{◌≡◌, ◌≤◌, ◌⊎◌, ℕ, ◌-◌, ◌^◌, List, [], ◌∷◌, min, max, ℤ, pos, negsuc, ◌+ℤ◌}
use Rattle.std.specs.List.{AllByRecursion}
use Rattle.theory.specs.Placed.{Among}

-- what a status message without the asking flag says
pub record Said : Type 0 where
  pub position : ℤ
  pub window : ℤ

-- up to the greatest i64
abbrev pub clipped : ℤ → ℕ
clipped (pos n) = min n (2 ^ 63 - 1)
clipped (negsuc n) = 0

abbrev pub flow_limit : ℕ → List Said → ℕ
flow_limit start [] = start
flow_limit start (s ∷ ss) = max (clipped (s.position +ℤ s.window)) (flow_limit start ss)

-- the greatest of the start and of what each status message allows
pub record IsFlowLimit (start : ℕ) (said : List Said) (limit : ℕ) : Type 0 where
  pub from : start ≤ limit
  pub above : AllByRecursion (λ s. clipped (s.position +ℤ s.window) ≤ limit) said
  pub reached : (limit ≡ start) ⊎ ((s : Said) × Among s said × (limit ≡ clipped (s.position +ℤ s.window)))
