-- What a contract sees of a device that never fails, and what its calls make of those of the device behind it.
use Rattle.std.specs.Prelude.{◌≡◌, ◌+◌, ◌%◌, ◌^◌, ℕ, List, Option, None, Some, Result, Ok, Err}
use Rattle.endpoint.specs.Calls.{Receives, Sends}
use Rattle.endpoint.specs.Devices.{Device, NeverFall, counted, fresh}
use Rattle.endpoint.specs.declared.datagrams.DeviceFailed.{DeviceFailed}

pub record Patient (D : Type 0) : Type 0 where
  pub inner : D
  -- how many receives found nothing
  pub nones : ℕ
  -- how many calls of the inner device failed
  pub lost : ℕ
  -- how many didn't
  pub worked : ℕ

-- nothing was sent or received yet
abbrev pub patient : {D : Type 0} → D → Patient D
patient inner = record { inner = inner; nones = 0; lost = 0; worked = 0 }

-- as a device it never fails, and doesn't tell what it carried
abbrev pub patient_device : ℕ → Device
patient_device nones = record fresh { nones = nones }

-- a call of the inner device failed; at the greatest of 64 bits the count stays
abbrev pub with_loss : {D : Type 0} → Patient D → Patient D
with_loss p = record p { lost = counted p.lost }

-- one didn't; modulo 2 ^ 64
abbrev pub with_work : {D : Type 0} → Patient D → Patient D
with_work p = record p { worked = (p.worked + 1) % 2 ^ 64 }

-- a receive found nothing
abbrev pub with_nothing : {D : Type 0} → Patient D → Patient D
with_nothing p = record p { nones = counted p.nones }

-- by what the inner device's send answered
abbrev pub after_send : {D : Type 0} → Patient D → Result (Unit {0}) DeviceFailed → Patient D
after_send p (Ok v) = with_work p
after_send p (Err e) = with_loss p

-- by what its receive answered
abbrev pub after_receive : {D : Type 0} → Patient D → Result (Option ℕ) DeviceFailed → Patient D
after_receive p (Ok (Some n)) = with_work p
after_receive p (Ok None) = with_nothing (with_work p)
after_receive p (Err e) = with_nothing (with_loss p)

-- where it failed, nothing has come
abbrev pub found_by : Result (Option ℕ) DeviceFailed → Option ℕ
found_by (Ok found) = found
found_by (Err e) = None

-- a send of the inner device, whatever that answers
pub record SendsPatiently {D : Type 0} (device : D → Device) (tells : D → Type 0) (old : Patient D) (datagram : List ℕ) (new : Patient D) : Type 0 where
  pub answer : Result (Unit {0}) DeviceFailed
  pub counts : NeverFall (device old.inner) (device new.inner)
  pub sends : Sends (tells old.inner) (device old.inner) datagram answer (device new.inner)
  pub still_tells : tells old.inner → tells new.inner
  pub is : new ≡ after_send (record old { inner = new.inner }) answer

-- a receive of the inner device, whatever that answers
pub record ReceivesPatiently {D : Type 0} (device : D → Device) (tells : D → Type 0) (old : Patient D) (before : List ℕ) (result : Result (Option ℕ) DeviceFailed) (after : List ℕ) (new : Patient D) : Type 0 where
  pub answer : Result (Option ℕ) DeviceFailed
  pub counts : NeverFall (device old.inner) (device new.inner)
  pub receives : Receives (tells old.inner) (device old.inner) before answer after (device new.inner)
  pub still_tells : tells old.inner → tells new.inner
  pub result_is : result ≡ Ok (found_by answer)
  pub is : new ≡ after_receive (record old { inner = new.inner }) answer
