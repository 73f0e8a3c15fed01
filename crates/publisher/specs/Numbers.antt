-- What a destination makes of a datagram that comes from there, and what it is behind some calls.
use Rattle.std.specs.Prelude.{◌≡◌, ℕ, ℤ, List, drop, take, Option, None, Some, Result, Ok, Err}
use Rattle.std.proofs.Common.{◌∙◌, ap}
use Rattle.endpoint.specs.Calls.{Receives}
use Rattle.endpoint.specs.Devices.{Device, NeverFall}
use Rattle.endpoint.specs.declared.datagrams.DeviceFailed.{DeviceFailed}
use Rattle.peer.specs.Numbering.{Numbers}
use Rattle.publisher.specs.declared.destination.Destination.{Destination}

-- it becomes the one of this id, if there is one
abbrev pub NumbersBy : Option ℤ → List ℕ → List ℕ → Type 0
NumbersBy None before after = after ≡ before
NumbersBy (Some id) before after = Numbers id before after

-- what was found becomes the one of this destination, and the buffer's rest stays
abbrev pub NumbersFound : {D : Type 0} → Destination D → Result (Option ℕ) DeviceFailed → List ℕ → List ℕ → Type 0
NumbersFound w (Ok (Some n)) middle after = NumbersBy w.id (take n middle) (take n after) × (drop n after ≡ drop n middle)
NumbersFound w (Ok None) middle after = after ≡ middle
NumbersFound w (Err e) middle after = after ≡ middle

-- a receive of the device, and what becomes of that
pub record ReceivesNumbered {D : Type 0} (device : D → Device) (tells : D → Type 0) (old : Destination D) (before : List ℕ) (result : Result (Option ℕ) DeviceFailed) (after : List ℕ) (new : Destination D) : Type 0 where
  pub middle : List ℕ
  pub counts : NeverFall (device old.device) (device new.device)
  pub receives : Receives (tells old.device) (device old.device) before result middle (device new.device)
  pub still_tells : tells old.device → tells new.device
  pub numbered : NumbersFound old result middle after

-- its device has lived on, and all else of it stays
pub record GoesOn {D : Type 0} (lives : D → D → Type 0) (old new : Destination D) : Type 0 where
  pub kept : new ≡ record old { device = new.device }
  pub device : lives old.device new.device

pub goes_still : {D : Type 0} (lives : D → D → Type 0) → ((d : D) → lives d d) → (w : Destination D) → GoesOn lives w w
goes_still lives still w = record { kept = λ i. w; device = still w.device }

pub goes_on : {D : Type 0} (lives : D → D → Type 0) → ((d e f : D) → lives d e → lives e f → lives d f) → (u v w : Destination D) → GoesOn lives u v → GoesOn lives v w → GoesOn lives u w
goes_on {D} lives on u v w a b = record {
  kept = b.kept ∙ ap (λ (x : Destination D). record x { device = w.device }) a.kept;
  device = on u.device v.device w.device a.device b.device;
}
