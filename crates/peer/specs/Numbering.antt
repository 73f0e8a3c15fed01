-- Receivers that are known by a number.
use Rattle.std.specs.Prelude.{◌≡◌, ℕ, ℤ, List}
use Rattle.theory.specs.Wire.{SM, Spells, Status, spelling}

-- the same of this receiver
abbrev pub numbered : ℤ → Status → Status
numbered number m = record m { receiver = number }

-- a datagram that is a status message becomes the one of this receiver, and no other changes
pub record Numbers (number : ℤ) (old new : List ℕ) : Type 0 where
  pub status : (flags : ℕ) (m : Status) → Spells (SM flags m) old → new ≡ spelling (SM flags (numbered number m))
  pub others : ((flags : ℕ) (m : Status) → Spells (SM flags m) old → ⊥) → new ≡ old
