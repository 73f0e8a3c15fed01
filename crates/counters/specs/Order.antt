-- How readings stand to one another.
use Rattle.std.specs.Prelude.{◌≡◌, ℕ, ◌≤◌, List, Some, slice_get}
use Rattle.counters.specs.declared.readings.Readings.{Readings}

-- before anything was published
abbrev pub zeros : Readings
zeros = record { least = 0; rebuilt = 0; high_water = 0 }

-- the consumer that is furthest behind is within what is there with no gap, and that is within what has come
abbrev pub IsInOrder : Readings → Type 0
IsInOrder r = (r.least ≤ r.rebuilt) × (r.rebuilt ≤ r.high_water)

-- none of the three is more than in the other
abbrev pub IsAtMost : Readings → Readings → Type 0
IsAtMost r s = (r.least ≤ s.least) × (r.rebuilt ≤ s.rebuilt) × (r.high_water ≤ s.high_water)

-- it is one of these
abbrev pub IsAmong : Readings → List Readings → Type 0
IsAmong r rs = (k : ℕ) × (slice_get rs k ≡ Some r)
