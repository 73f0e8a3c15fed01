-- Readings that are in order and that aren't, and which are no more than others.
use Rattle.std.proofs.Common.{ℕ, arith}
use Rattle.counters.specs.declared.readings.Readings.{Readings}
use Rattle.counters.specs.Order.{IsAtMost, IsInOrder}

abbrev readings : ℕ → ℕ → ℕ → Readings
readings least rebuilt high_water = record { least = least; rebuilt = rebuilt; high_water = high_water }

-- each within the next, the same one too
rising : IsInOrder (readings 32 64 96)
rising = (omega arith, omega arith)

all_one : IsInOrder (readings 64 64 64)
all_one = (omega arith, omega arith)

-- a consumer behind what isn't whole yet, though all has come
consumer_past_rebuilt : IsInOrder (readings 64 32 96) → ⊥
consumer_past_rebuilt h = omega (arith, h.0)

rebuilt_past_high_water : IsInOrder (readings 32 96 64) → ⊥
rebuilt_past_high_water h = omega (arith, h.1)

-- the same, and each of the three that falls
same : IsAtMost (readings 32 64 96) (readings 32 64 96)
same = (omega arith, omega arith, omega arith)

least_falls : IsAtMost (readings 32 64 96) (readings 0 64 96) → ⊥
least_falls h = omega (arith, h.0)

rebuilt_falls : IsAtMost (readings 32 64 96) (readings 32 32 96) → ⊥
rebuilt_falls h = omega (arith, h.1)

high_water_falls : IsAtMost (readings 32 64 96) (readings 32 64 64) → ⊥
high_water_falls h = omega (arith, h.2)
