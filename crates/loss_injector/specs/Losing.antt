-- What a contract sees of a device that loses datagrams, and what becomes of one that is sent through it.
use Rattle.std.specs.Prelude.{◌≡◌, ◌⊎◌, ◌<◌, ℕ, List, [], ◌++◌, length, take, None, Result, OnErr, OnOk}
use Rattle.rand_core.specs.Pcg32Seed.{pcg32_seed}
use Rattle.rand_pcg.specs.Lcg.{Lcg}
use Rattle.rand_pcg.specs.Pcg.{pcg32, pcg32_of_seed}
use Rattle.theory.specs.Loss.{Rates}
use Rattle.loss_injector.specs.Injecting.{Gives, Injecting, IsKeeping}
use Rattle.endpoint.specs.Calls.{CountsFailure}
use Rattle.endpoint.specs.Devices.{Device}
use Rattle.endpoint.specs.declared.datagrams.DeviceFailed.{DeviceFailed}

pub record Losing (D : Type 0) : Type 0 where
  pub inner : D
  pub injector : Injecting
  -- where its random words come from
  pub draws : Lcg

-- nothing was sent through it yet
abbrev pub begun : {D : Type 0} → D → Rates → ℕ → Losing D
begun device rates seed = record {
  inner = device;
  injector = record { rates = rates; held = None };
  draws = pcg32_of_seed (pcg32_seed 16 seed);
}

-- the injector makes this of a datagram; or it was to be held back and memory for that was refused, and it's lost
abbrev pub Injects : Injecting → ℕ → List ℕ → List (List ℕ) → Injecting → Type 0
Injects old word datagram out new = Gives old word datagram out new ⊎ (IsKeeping old word × (out ≡ []) × (new ≡ old))

-- some of these datagrams, the first ones, were carried away, and then the device failed
pub record StopsWithin (old : Device) (out : List (List ℕ)) (new : Device) : Type 0 where
  pub count : ℕ
  pub within : count < length out
  pub sent : new ≡ record old { sent = old.sent ++ take count out; failures = new.failures }

-- datagrams are handed to a device one after the other, up to a fault
pub record SendsAll (tells : Type 0) (old : Device) (out : List (List ℕ)) (result : Result (Unit {0}) DeviceFailed) (new : Device) : Type 0 where
  pub failures : CountsFailure result old.failures new.failures
  pub same_received : new.received ≡ old.received
  pub same_nones : new.nones ≡ old.nones
  pub sent : tells → OnOk result (new ≡ record old { sent = old.sent ++ out })
  pub stopped : tells → OnErr result (StopsWithin old out new)

-- one word is drawn, and what the injector makes of the datagram by it is handed to the inner device
pub record SendsThrough {D : Type 0} (device : D → Device) (tells : D → Type 0) (old : Losing D) (datagram : List ℕ) (result : Result (Unit {0}) DeviceFailed) (new : Losing D) : Type 0 where
  pub out : List (List ℕ)
  pub injects : Injects old.injector (pcg32 old.draws).0 datagram out new.injector
  pub drew : new.draws ≡ (pcg32 old.draws).1
  pub sends : SendsAll (tells old.inner) (device old.inner) out result (device new.inner)
