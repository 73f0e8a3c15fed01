-- What a party does in a cycle over a device of several ways.
use Rattle.std.specs.Prelude.{◌≡◌, ◌⊎◌, ℕ, zero, suc, ◌<◌, ◌||◌, nat_lt, Bool, false, List, Ok, Err}
use Rattle.endpoint.specs.Devices.{Device}
use Rattle.endpoint.specs.declared.device_error.DeviceError.{DeviceError}
use Rattle.endpoint.specs.declared.device_error.DeviceError.TheVariants as faults
use Rattle.agents.specs.Cycles.{Hearing, Ticking}

-- a device, and what it becomes where a way is chosen
module _ {P D : Type 0} (hears : P → ℕ → List ℕ → P → List (List ℕ) → Type 0) (ticks : P → ℕ → P → List (List ℕ) → Type 0) (now : ℕ) (device : D → Device) (tells : D → Type 0) (turned : D → ℕ → D) where
  -- the ways below this one are heard, each once, one after the other: it's chosen, and 16 datagrams are taken from it, or as
  -- many as have come along it; and whether any have come
  abbrev pub HearsWays : ℕ → Bool → P → D → P → D → Type 0
  HearsWays zero any s d t e = (t ≡ s) × (e ≡ d) × (any ≡ false)
  HearsWays (suc way) any s d t e = (before : Bool) × (count : ℕ) × (u : P) × (f : D) × HearsWays way before s d u f × Hearing hears now (tells (turned f way)) 16 u (device (turned f way)) (Ok count) t (device e) × (any ≡ (before || nat_lt 0 count))

  -- all ways are heard, then comes one tick; what these give is sent
  pub record WaysCycle (ways : ℕ) (s : P) (d : D) (busy : Bool) (t : P) (e : D) : Type 0 where
    pub any : Bool
    pub sent : Bool
    pub middle : P
    pub between : D
    pub heard : HearsWays ways any s d middle between
    pub ticked : Ticking ticks now (tells between) middle (device between) (Ok sent) t (device e)
    pub is_busy : busy ≡ (any || sent)

  -- a fault ended it while a way was heard, behind those below it; there was no tick
  pub record WayFault (ways : ℕ) (fault : DeviceError) (s : P) (d : D) (t : P) (e : D) : Type 0 where
    pub way : ℕ
    pub within : way < ways
    pub any : Bool
    pub middle : P
    pub between : D
    pub heard : HearsWays way any s d middle between
    pub stopped : Hearing hears now (tells (turned between way)) 16 middle (device (turned between way)) (Err fault) t (device e)

  -- or the device failed at the tick, behind all ways
  pub record TickFault (ways : ℕ) (fault : DeviceError) (s : P) (d : D) (t : P) (e : D) : Type 0 where
    pub any : Bool
    pub middle : P
    pub between : D
    pub heard : HearsWays ways any s d middle between
    pub ticked : Ticking ticks now (tells between) middle (device between) (Err (record {})) t (device e)
    pub is : fault ≡ faults.Device

  abbrev pub WaysFault : ℕ → DeviceError → P → D → P → D → Type 0
  WaysFault ways fault s d t e = WayFault ways fault s d t e ⊎ TickFault ways fault s d t e
