-- What a contract sees of a device in memory, and what its calls do.
use Rattle.std.specs.Prelude.{ℕ, List, [], ◌∷◌, ◌++◌, length, take, drop, min, Option, None, Some}
use Rattle.endpoint.specs.Devices.{Device, fresh, with_failure, with_none, with_received, with_sent}

pub record Memory : Type 0 where
  pub device : Device
  -- what has come and wasn't handed over yet, the oldest first
  pub waiting : List (List ℕ)

abbrev pub empty : Memory
empty = record { device = fresh; waiting = [] }

-- a datagram comes in
abbrev pub with_waiting : Memory → List ℕ → Memory
with_waiting m datagram = record m { waiting = m.waiting ++ datagram ∷ [] }

abbrev pub sends : Memory → List ℕ → Memory
sends m datagram = record m { device = with_sent m.device datagram }

abbrev pub fails : Memory → Memory
fails m = record m { device = with_failure m.device }

-- the length of what the first of those that wait leaves in a buffer of this size
abbrev pub found_length : List (List ℕ) → ℕ → Option ℕ
found_length [] size = None
found_length (d ∷ ds) size = Some (min (length d) size)

-- the first of those that wait stands at the buffer's front
abbrev pub filled_by : List (List ℕ) → List ℕ → List ℕ
filled_by [] buffer = buffer
filled_by (d ∷ ds) buffer = take (length buffer) d ++ drop (length d) buffer

-- the first of those that wait is handed over, as far as it has room
abbrev pub hands_over : Device → List (List ℕ) → ℕ → Memory
hands_over device [] size = record { device = with_none device; waiting = [] }
hands_over device (d ∷ ds) size = record { device = with_received device (take size d); waiting = ds }
