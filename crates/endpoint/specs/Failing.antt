-- What a contract sees of a device that fails once, and what its calls do.
use Rattle.std.specs.Prelude.{◌≡◌, ℕ, ◌+◌, List, min, nat_le, ◌&&◌, if◌then◌else◌, Option, Result}
use Rattle.endpoint.specs.Calls.{Receives, Sends}
use Rattle.endpoint.specs.Devices.{Device, NeverFall, counted, greatest}
use Rattle.endpoint.specs.declared.datagrams.DeviceFailed.{DeviceFailed}

pub record Failing (D : Type 0) : Type 0 where
  pub inner : D
  -- which of its calls fails, from 1; none at 0
  pub nth : ℕ
  -- how many calls there were
  pub calls : ℕ

-- how many calls failed by themselves
abbrev pub own_failures : {D : Type 0} → Failing D → ℕ
own_failures f = if nat_le 1 f.nth && nat_le f.nth f.calls then 1 else 0

-- more failures than the device itself has counted
abbrev pub with_failures : Device → ℕ → Device
with_failures d more = record d { failures = min (d.failures + more) greatest }

-- the inner device's traffic, and its failures together with the own one
abbrev pub failing_device : {D : Type 0} → Device → Failing D → Device
failing_device inner f = with_failures inner (own_failures f)

-- the next call is the one that fails
abbrev pub IsDue : {D : Type 0} → Failing D → Type 0
IsDue f = f.calls + 1 ≡ f.nth

abbrev pub with_call : {D : Type 0} → Failing D → Failing D
with_call f = record f { calls = counted f.calls }

-- a send goes to the inner device
pub record PassesSend {D : Type 0} (device : D → Device) (tells : D → Type 0) (old : Failing D) (datagram : List ℕ) (result : Result (Unit {0}) DeviceFailed) (new : Failing D) : Type 0 where
  pub counts : NeverFall (device old.inner) (device new.inner)
  pub sends : Sends (tells old.inner) (device old.inner) datagram result (device new.inner)
  pub still_tells : tells old.inner → tells new.inner
  pub called : new ≡ record (with_call old) { inner = new.inner }

-- a receive comes from the inner device
pub record PassesReceive {D : Type 0} (device : D → Device) (tells : D → Type 0) (old : Failing D) (before : List ℕ) (result : Result (Option ℕ) DeviceFailed) (after : List ℕ) (new : Failing D) : Type 0 where
  pub counts : NeverFall (device old.inner) (device new.inner)
  pub receives : Receives (tells old.inner) (device old.inner) before result after (device new.inner)
  pub still_tells : tells old.inner → tells new.inner
  pub called : new ≡ record (with_call old) { inner = new.inner }
