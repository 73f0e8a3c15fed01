-- A frame at the front of bytes.
use Rattle.std.specs.Prelude.{ℕ, ◌≤◌, List, length, take}
use Rattle.theory.specs.Wire.{Wire, Spells}

-- the first n bytes spell the frame
pub record FrontSpells (bytes : List ℕ) (w : Wire) (n : ℕ) : Type 0 where
  pub within : n ≤ length bytes
  pub spelled : Spells w (take n bytes)
