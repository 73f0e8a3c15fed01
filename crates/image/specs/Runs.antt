-- Units that follow each other.
use Rattle.std.specs.Prelude.{◌≡◌, ℕ, ◌+◌, ◌*◌, ◌^◌, ◌<◌, ◌≤◌, List}
use Rattle.std.specs.List.{AllByRecursion}
use Rattle.theory.specs.Placed.{Among, Placed, covered, end_of}
use Rattle.theory.specs.Units.{HasUnit}

-- all units from a position to another were stored, and the other lies within no frame
pub record IsRun (frames : List Placed) (from to : ℕ) : Type 0 where
  pub units : ℕ
  pub end : to ≡ from + 32 * units
  pub all : (k : ℕ) → k < units → HasUnit frames (from + 32 * k)
  pub edge : (s : Placed) → Among s frames → s.at < to → end_of s ≤ to

-- frames that end at a mark or below, each in a term at the most
pub record AreBelow (frames : List Placed) (mark : ℕ) : Type 0 where
  pub ends : AllByRecursion (λ s. end_of s ≤ mark) frames
  pub short : AllByRecursion (λ s. covered s ≤ 2 ^ 24) frames
