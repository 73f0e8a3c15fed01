-- What a device carried in a cycle.
use Rattle.std.specs.Prelude.{◌≡◌, ℕ, Bool, true, false, List, [], ◌∷◌, ◌++◌, Result, OnErr, OnOk}
use Rattle.endpoint.specs.Devices.{Device, HasGrown}
use Rattle.endpoint.specs.declared.datagrams.DeviceFailed.{DeviceFailed}

-- these were received, and these sent
pub record Carries (old : Device) (ins outs : List (List ℕ)) (new : Device) : Type 0 where
  pub received : new.received ≡ old.received ++ ins
  pub sent : new.sent ≡ old.sent ++ outs

-- of these datagrams the first ones
pub record IsPart (datagrams sent : List (List ℕ)) : Type 0 where
  pub unsent : List (List ℕ)
  pub parts : datagrams ≡ sent ++ unsent

abbrev pub are_some : List (List ℕ) → Bool
are_some [] = false
are_some (d ∷ ds) = true

-- of these datagrams a part was sent, all of them but at a fault
pub record SendsOut (tells : Type 0) (old : Device) (datagrams : List (List ℕ)) (result : Result (Unit {0}) DeviceFailed) (new : Device) : Type 0 where
  pub sent : List (List ℕ)
  pub part : IsPart datagrams sent
  pub whole : OnOk result (sent ≡ datagrams)
  pub failed : OnErr result (HasGrown old.failures new.failures)
  pub carries : tells → new.sent ≡ old.sent ++ sent
