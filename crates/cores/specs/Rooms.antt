-- What stands in the caller's rooms.
use Rattle.std.specs.Prelude.{ℕ, ℤ, List, ◌++◌, drop, length, map, min, take}
use Rattle.receiver.specs.declared.receiver_core.Outcome.{Outcome}
use Rattle.cores.specs.Numbers.{of_outcome}

-- how many outcomes have room
abbrev pub told : List Outcome → List ℤ → ℕ
told outcomes room = min (length outcomes) (length room)

-- the numbers of the first outcomes, as many as have room, before what else stood there
abbrev pub with_outcomes : List Outcome → List ℤ → List ℤ
with_outcomes outcomes room = map of_outcome (take (told outcomes room) outcomes) ++ drop (told outcomes room) room
