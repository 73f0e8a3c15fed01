-- The units of frames, as bits: a word of them, and the first of a range.
use Rattle.std.specs.Prelude.{◌≡◌, ℕ, ◌+◌, ◌*◌, ◌/◌, ◌%◌, ◌<◌, ◌≤◌, ◌⊎◌, ◌↔◌, List}
use Rattle.std.specs.Int.{bit_at}
use Rattle.theory.specs.Placed.{Placed}
use Rattle.theory.specs.Units.{HasUnit}

-- the word of these units: a position's bit is set where a frame has a unit there
abbrev pub TellsUnits : ℕ → ℕ → List Placed → ℕ → ℕ → Type 0
TellsUnits term low frames index word =
    (p : ℕ) → p % 32 ≡ 0 → low ≤ p → p < low + 3 * term → p % (3 * term) / 2048 ≡ index → (bit_at word (p % 2048 / 32) ≡ 1) ↔ HasUnit frames p

-- no unit of the frames lies below it, and it is one, or the end
pub record IsFirstHeld (frames : List Placed) (start end first : ℕ) : Type 0 where
  pub from : start ≤ first
  pub within : first ≤ end
  pub empty : (p : ℕ) → p % 32 ≡ 0 → start ≤ p → p < first → HasUnit frames p → ⊥
  pub ends : HasUnit frames first ⊎ (first ≡ end)
