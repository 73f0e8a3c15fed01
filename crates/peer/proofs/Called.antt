-- A publisher's device behind one call.
use Rattle.std.proofs.Common.{ℕ, inl, inr, List, [], ◌∷◌, Option, Result, refl}
use Rattle.endpoint.specs.Calls.{Sends}
use Rattle.endpoint.specs.Devices.{Device}
use Rattle.endpoint.specs.declared.datagrams.DeviceFailed.{DeviceFailed}
use Rattle.peer.specs.Attends.{Attends}
use Rattle.peer.specs.Watching.{Gives, Takes, Watching, due_of}

pub given_once : {D : Type 0} (device : D → Device) (tells : D → Type 0) (old new : Watching D) (datagram : List ℕ) (result : Result (Unit {0}) DeviceFailed)
    → Gives old.watch datagram new.watch → Sends (tells old.inner) (device old.inner) datagram result (device new.inner) → Attends device tells old new
given_once {D} device tells old new datagram result gives sends = record {
  states = new ∷ [];
  goes = (inl (record { datagram = datagram; result = result; gives = gives; sends = sends }), refl);
}

pub asked_once : {D : Type 0} (device : D → Device) (tells : D → Type 0) (old new : Watching D) (before : List ℕ) (result : Result (Option ℕ) DeviceFailed) (after : List ℕ)
    → Takes device tells (due_of old.watch) old before result after new → Attends device tells old new
asked_once {D} device tells old new before result after takes = record {
  states = new ∷ [];
  goes = (inr (record { before = before; after = after; result = result; takes = takes }), refl);
}
