-- What the cell and its passes keep, between any two steps of any threads.
use Rattle.std.specs.Prelude.{◌≡◌, ℕ, true, List}
use mathlib.Core.Option.{some}
use lib.ListN.{get_elem?}
use Rattle.counters.specs.declared.readings.Readings.{Readings}
use Rattle.counters.specs.declared.hand.Hand.{Hand}
use Rattle.counters.specs.Order.{zeros, IsInOrder, IsAtMost, IsAmong}

-- a pass knows what stood there at some time and is no more than what does now, and the one writer all of it
pub record Fits (writer : ℕ) (past : List Readings) (now : Readings) (port : ℕ) (v : Hand) : Type 0 where
  pub known : IsAtMost v.known now
  pub told : IsAtMost v.told now
  pub known_among : IsAmong v.known past
  pub told_among : IsAmong v.told past
  pub published : v.publishes ≡ true → (port ≡ writer) × (v.known ≡ now) × (v.past ≡ past)

-- what stands there is in order, and what the one writer has published last
pub record IsCurrent (now : Readings) (views : List Hand) : Type 0 where
  pub writer : ℕ
  pub past : List Readings
  pub order : IsInOrder now
  pub among : IsAmong now past
  pub zeros_among : IsAmong zeros past
  pub each : (port : ℕ) (v : Hand) → get_elem? views port ≡ some v → Fits writer past now port v

-- the pass knows what stands there after its step, which is no less than what it knew or was told; the writer knew what stood there before, and what it was told is its own
pub record IsSeen (v : Hand) (was now : Readings) (w : Hand) : Type 0 where
  pub published : v.publishes ≡ true → (was ≡ v.known) × IsAmong v.told v.past
  pub order : IsInOrder now
  pub known : IsAtMost v.known now
  pub told : IsAtMost v.told now
  pub after : w ≡ record v { known = now }
