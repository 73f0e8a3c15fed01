-- What contracts see of an image.
use Rattle.std.specs.Prelude.{◌≡◌, ℕ, ◌+◌, ◌-◌, ◌%◌, ◌<◌, ◌≤◌, Bool, false, ℤ, pos, negsuc, List, [], ◌∷◌, min, nat_lt}
use Rattle.std.specs.List.{fold}
use Rattle.theory.specs.Position.{Geometry, max_position}
use Rattle.theory.specs.Placed.{Among, Placed, covered, end_of, frame_length}
use Rattle.theory.specs.Image.{is_accepted}

-- the least of the positions
abbrev pub least : List ℕ → ℕ
least [] = 0
least (p ∷ ps) = fold min p ps

pub record IsJoin (g : Geometry) (join : ℕ) : Type 0 where
  pub unit : join % 32 ≡ 0
  pub within : join ≤ max_position g

-- how many consumers there may be
abbrev pub IsCount : ℕ → Type 0
IsCount n = (0 < n) × (n ≤ 8)

-- a frame that may be held
pub record IsFit (term_length high : ℕ) (s : Placed) : Type 0 where
  pub unit : s.at % 32 ≡ 0
  pub long : 32 ≤ frame_length s.frame
  pub in_term : s.at % term_length + covered s ≤ term_length
  pub marked : end_of s ≤ high

-- whether a heartbeat at a position, which may be negative, is accepted
abbrev pub accepts : Geometry → ℕ → ℕ → ℤ → Bool
accepts g high m (pos p) = is_accepted g high m p
accepts g high m (negsuc n) = false

-- whether so many bytes from a position on, which may be negative, would pass the end of its term
abbrev pub crosses : ℕ → ℤ → ℕ → Bool
crosses term_length (pos p) bytes = nat_lt term_length (p % term_length + bytes)
crosses term_length (negsuc n) bytes = nat_lt term_length (term_length - 1 - n % term_length + bytes)

-- a frame starts there
abbrev pub StartsAt : List Placed → ℕ → Type 0
StartsAt frames p = (s : Placed) × Among s frames × (s.at ≡ p)
