-- What the calls of a device leave of it.
use Rattle.std.specs.Prelude.{◌≡◌, ℕ, ◌≤◌, List, length, take, drop, Option, None, Some, Result, Ok, Err, IfSome, IfOk, OnErr, OnOk}
use Rattle.endpoint.specs.Devices.{Device, HasGrown, with_received, with_sent}
use Rattle.endpoint.specs.declared.datagrams.DeviceFailed.{DeviceFailed}

-- only a call that fails counts as one
abbrev pub CountsFailure : {T : Type 0} → Result T DeviceFailed → ℕ → ℕ → Type 0
CountsFailure (Ok v) old new = new ≡ old
CountsFailure (Err e) old new = HasGrown old new

-- only a receive that finds nothing counts as one
abbrev pub CountsNone : Result (Option ℕ) DeviceFailed → ℕ → ℕ → Type 0
CountsNone (Ok None) old new = HasGrown old new
CountsNone (Ok (Some n)) old new = new ≡ old
CountsNone (Err e) old new = new ≡ old

-- a send; what was carried away is known where the device tells it
pub record Sends (tells : Type 0) (old : Device) (datagram : List ℕ) (result : Result (Unit {0}) DeviceFailed) (new : Device) : Type 0 where
  pub failures : CountsFailure result old.failures new.failures
  pub same_received : new.received ≡ old.received
  pub same_nones : new.nones ≡ old.nones
  pub sent : tells → OnOk result (new ≡ with_sent old datagram)
  pub unsent : tells → OnErr result (new ≡ record old { failures = new.failures })

-- the first n bytes of a buffer are new at the most
pub record Fills (n : ℕ) (before after : List ℕ) : Type 0 where
  pub within : n ≤ length before
  pub rest : drop n after ≡ drop n before

-- what was found stands at the buffer's front, and was handed over; or nothing was
abbrev pub HandsOver : Device → Option ℕ → List ℕ → Device → Type 0
HandsOver old None buffer new = new ≡ record old { nones = new.nones }
HandsOver old (Some n) buffer new = new ≡ with_received old (take n buffer)

-- a receive; what was handed over is known where the device tells it
pub record Receives (tells : Type 0) (old : Device) (before : List ℕ) (result : Result (Option ℕ) DeviceFailed) (after : List ℕ) (new : Device) : Type 0 where
  pub failures : CountsFailure result old.failures new.failures
  pub nones : CountsNone result old.nones new.nones
  pub same_sent : new.sent ≡ old.sent
  pub filled : IfOk result (λ found. IfSome found (λ n. Fills n before after))
  pub handed_over : tells → IfOk result (λ found. HandsOver old found after new)
  pub unreceived : tells → OnErr result (new ≡ record old { failures = new.failures })
