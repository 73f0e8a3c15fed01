-- What a contract sees of a device.
use Rattle.std.specs.Prelude.{◌≡◌, ◌⊎◌, ℕ, ◌+◌, ◌-◌, ◌^◌, ◌<◌, ◌≤◌, min, List, [], ◌∷◌, ◌++◌}

pub record Device : Type 0 where
  -- carried away, the oldest first
  pub sent : List (List ℕ)
  -- handed over, the oldest first
  pub received : List (List ℕ)
  -- how many calls failed
  pub failures : ℕ
  -- how many receives found nothing
  pub nones : ℕ

-- where a count of 64 bits stays
abbrev pub greatest : ℕ
greatest = 2 ^ 64 - 1

-- one more, or the greatest
abbrev pub counted : ℕ → ℕ
counted n = min (n + 1) greatest

-- a count is higher, or stays at its greatest
abbrev pub HasGrown : ℕ → ℕ → Type 0
HasGrown old new = (old < new) ⊎ ((old ≡ greatest) × (new ≡ greatest))

-- a count that has grown isn't lower, and is the same only at its greatest
abbrev pub IsHigherOnceGrown : Type 0
IsHigherOnceGrown = (old new : ℕ) → HasGrown old new → (old ≤ new) × (new ≡ old → old ≡ greatest)

-- one more is grown
abbrev pub GrowsByOne : Type 0
GrowsByOne = (n : ℕ) → n ≤ greatest → HasGrown n (counted n)

-- neither count is lower
pub record NeverFall (old new : Device) : Type 0 where
  pub failures : old.failures ≤ new.failures
  pub nones : old.nones ≤ new.nones

abbrev pub with_sent : Device → List ℕ → Device
with_sent d datagram = record d { sent = d.sent ++ datagram ∷ [] }

abbrev pub with_received : Device → List ℕ → Device
with_received d datagram = record d { received = d.received ++ datagram ∷ [] }

abbrev pub with_failure : Device → Device
with_failure d = record d { failures = counted d.failures }

abbrev pub with_none : Device → Device
with_none d = record d { nones = counted d.nones }

-- nothing was carried away or handed over
abbrev pub fresh : Device
fresh = record { sent = []; received = []; failures = 0; nones = 0 }
