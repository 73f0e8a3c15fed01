-- The units of a list of frames, and how far they stand without a gap.
use Rattle.std.specs.Prelude.{◌≡◌, ℕ, zero, suc, ◌+◌, ◌-◌, ◌*◌, ◌/◌, ◌%◌, ◌<◌, Bool, ◌&&◌, List, take, drop, nat_eq, if◌then◌else◌}
use Rattle.std.specs.List.{list_any}
use Rattle.theory.specs.Placed.{Among, Placed, covered}
use Rattle.theory.specs.Bytes.{Identity, bytes_of, covers}

-- one of the frames has a unit at this position
pub record HasUnit (frames : List Placed) (position : ℕ) : Type 0 where
  pub frame : Placed
  pub among : Among frame frames
  pub unit : ℕ
  pub inside : 32 * unit < covered frame
  pub here : position ≡ frame.at + 32 * unit

-- the unit, with its content: of a padding the first has the header, and the others are empty
abbrev pub Got : Identity → List Placed → ℕ → List ℕ → Type 0
Got i frames position content = (u : HasUnit frames position) × (content ≡ take 32 (drop (32 * u.unit) (bytes_of i u.frame)))

-- every unit from j to q is there, and the one at q isn't
pub record IsContiguous (frames : List Placed) (j q : ℕ) : Type 0 where
  pub units : ℕ
  pub end : q ≡ j + 32 * units
  pub all : (k : ℕ) → k < units → HasUnit frames (j + 32 * k)
  pub next : HasUnit frames q → ⊥

-- the same end, computed
abbrev pub has_unit : List Placed → ℕ → Bool
has_unit frames p = list_any (λ s. covers s p && nat_eq ((p - s.at) % 32) 0) frames

abbrev pub reach : ℕ → List Placed → ℕ → ℕ
reach zero frames p = p
reach (suc fuel) frames p = if has_unit frames p then reach fuel frames (p + 32) else p

abbrev pub contiguous : List Placed → ℕ → ℕ → ℕ
contiguous frames j high = reach ((high - j + 31) / 32) frames j
