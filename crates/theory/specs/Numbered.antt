-- A numbered row, some seats of which are taken.
use Rattle.std.specs.Prelude.{List, Option, None, Some, ⊤}
use Rattle.std.specs.List.{AllByRecursion}

abbrev pub IfThere : {X : Type 0} → (X → Type 0) → Option X → Type 0
IfThere P None = ⊤
IfThere P (Some x) = P x

-- it holds of each that is there
abbrev pub Each : {X : Type 0} → (X → Type 0) → List (Option X) → Type 0
Each P seats = AllByRecursion (IfThere P) seats
