-- Laws on the contiguous end and the gap that are computed, and on what a unit has.
use Rattle.std.specs.Prelude.{◌≡◌, ℕ, ◌%◌, ◌<◌, ◌≤◌, List, map}
use Rattle.std.specs.List.{AllByRecursion}
use Rattle.theory.specs.Placed.{Placed, covered, end_of}
use Rattle.theory.specs.Bytes.{Identity}
use Rattle.theory.specs.Units.{Got, HasUnit, IsContiguous, contiguous}
use Rattle.theory.specs.Gap.{IsFirstGap}
use Rattle.theory.specs.Insert.{AreApart, head_of}

-- the end that is computed is the contiguous one, and the only one
abbrev pub ComputesContiguous : Type 0
ComputesContiguous = (frames : List Placed) (j high : ℕ) → AllByRecursion (λ s. end_of s ≤ high) frames → IsContiguous frames j (contiguous frames j high) × ((q : ℕ) → IsContiguous frames j q → q ≡ contiguous frames j high)

-- the gap that is computed there is the first one
abbrev pub ComputesGap : Type 0
ComputesGap = (term : ℕ) (frames : List Placed) (high j q : ℕ) → 0 < term → j % 32 ≡ 0 → q ≤ high → AllByRecursion (λ s. (s.at % 32 ≡ 0) × (0 < covered s)) frames → IsContiguous frames j q → IsFirstGap term frames high q

-- each unit of frames that lie apart has a content, and only one
abbrev pub HasOneContent : Type 0
HasOneContent = (i : Identity) (frames : List Placed) (p : ℕ) → AreApart (map head_of frames) → HasUnit frames p → (content : List ℕ) × Got i frames p content × ((other : List ℕ) → Got i frames p other → other ≡ content)
