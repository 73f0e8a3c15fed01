-- What a party does in a cycle: by what it becomes by a datagram at a moment and by a moment, and what it gives out then.
use Rattle.std.specs.Prelude.{◌≡◌, ◌⊎◌, ℕ, ◌+◌, ◌<◌, ◌≤◌, Bool, List, [], ◌∷◌, ◌++◌, length, Result, IfErr, IfOk, OnErr, OnOk}
use Rattle.endpoint.specs.Devices.{Device, HasGrown}
use Rattle.endpoint.specs.declared.datagrams.DeviceFailed.{DeviceFailed}
use Rattle.agents.specs.Traffic.{Carries, IsPart, are_some}
use Rattle.endpoint.specs.declared.device_error.DeviceError.{DeviceError}
use Rattle.endpoint.specs.declared.device_error.DeviceError.TheVariants as faults

pub record DutyState (D : Type 0) : Type 0 where
  pub device : D
  -- how many bytes a datagram that goes out has at the most
  pub mtu : ℕ

-- the party hears these datagrams at a moment, one after the other, and gives these out in all
abbrev pub HearsAll : {P : Type 0} → (P → ℕ → List ℕ → P → List (List ℕ) → Type 0) → ℕ → P → List (List ℕ) → P → List (List ℕ) → Type 0
HearsAll hears now s [] t given = (t ≡ s) × (given ≡ [])
HearsAll {P} hears now s (d ∷ ds) t given = (u : P) × (first rest : List (List ℕ)) × hears s now d u first × HearsAll hears now u ds t rest × (given ≡ first ++ rest)

-- a device failed that has counted it, or memory was refused to one datagram, which is lost
abbrev pub Explains : DeviceError → Device → List (List ℕ) → Device → Type 0
Explains faults.Device d lost e = HasGrown d.failures e.failures × (lost ≡ [])
Explains faults.Memory d lost e = length lost ≡ 1

-- where memory was refused one datagram is lost, and where the device failed it has counted that, and none is
abbrev pub MemoryLosesOne : Type 0
MemoryLosesOne = (d e : Device) (lost : List (List ℕ)) → Explains faults.Memory d lost e → length lost ≡ 1

abbrev pub FailuresAreCounted : Type 0
FailuresAreCounted = (d e : Device) (lost : List (List ℕ)) → Explains faults.Device d lost e → HasGrown d.failures e.failures × (lost ≡ [])

-- datagrams that had come, and what the party gave out for them; of that a part was sent, all of it but at a fault
pub record Hearing {P : Type 0} (hears : P → ℕ → List ℕ → P → List (List ℕ) → Type 0) (now : ℕ) (tells : Type 0) (most : ℕ) (s : P) (d : Device) (result : Result ℕ DeviceError) (t : P) (e : Device) : Type 0 where
  pub heard : List (List ℕ)
  pub lost : List (List ℕ)
  pub given : List (List ℕ)
  pub sent : List (List ℕ)
  pub few : length heard + length lost ≤ most
  pub number : IfOk result (λ n. n ≡ length heard)
  pub ended : IfOk result (λ n. n < most → HasGrown d.nones e.nones)
  pub all_heard : HearsAll hears now s heard t given
  pub none_lost : OnOk result (lost ≡ [])
  pub part : IsPart given sent
  pub whole : OnOk result (sent ≡ given)
  pub explained : IfErr result (λ fault. Explains fault d lost e)
  pub carries : tells → Carries d (heard ++ lost) sent e

-- a moment, and what the party gave out at it; of that a part was sent, all of it but at a fault
pub record Ticking {P : Type 0} (ticks : P → ℕ → P → List (List ℕ) → Type 0) (now : ℕ) (tells : Type 0) (s : P) (d : Device) (result : Result Bool DeviceFailed) (t : P) (e : Device) : Type 0 where
  pub given : List (List ℕ)
  pub sent : List (List ℕ)
  pub ticked : ticks s now t given
  pub busy : IfOk result (λ any. any ≡ are_some given)
  pub part : IsPart given sent
  pub whole : OnOk result (sent ≡ given)
  pub failed : OnErr result (HasGrown d.failures e.failures)
  pub carries : tells → Carries d [] sent e

-- a cycle: datagrams are heard, 16 or as many as there are, then comes the tick; what these give is sent
pub record Cycle {P : Type 0} (hears : P → ℕ → List ℕ → P → List (List ℕ) → Type 0) (ticks : P → ℕ → P → List (List ℕ) → Type 0) (now : ℕ) (tells : Type 0) (s : P) (d : Device) (busy : Bool) (t : P) (e : Device) : Type 0 where
  pub heard : List (List ℕ)
  pub answers : List (List ℕ)
  pub given : List (List ℕ)
  pub middle : P
  pub few : length heard ≤ 16
  pub ended : (length heard ≡ 16) ⊎ HasGrown d.nones e.nones
  pub all_heard : HearsAll hears now s heard middle answers
  pub ticked : ticks middle now t given
  pub carries : tells → Carries d heard (answers ++ given) e
  pub is_busy : busy ≡ are_some (heard ++ given)

-- the tick was done behind 16 datagrams, or as many as there were, each heard and answered; then a part of what that gave was sent
pub record TicksBehind {P : Type 0} (ticks : P → ℕ → P → List (List ℕ) → Type 0) (now : ℕ) (heard lost answers given sent : List (List ℕ)) (middle : P) (d : Device) (t : P) (e : Device) : Type 0 where
  pub ended : (length heard ≡ 16) ⊎ HasGrown d.nones e.nones
  pub none_lost : lost ≡ []
  pub answered : IsPart sent answers
  pub ticked : ticks middle now t given

-- a fault ended it, while datagrams were heard, and then there was no tick, or behind the tick; of what the party gave out a part was sent
pub record Fault {P : Type 0} (hears : P → ℕ → List ℕ → P → List (List ℕ) → Type 0) (ticks : P → ℕ → P → List (List ℕ) → Type 0) (now : ℕ) (tells : Type 0) (fault : DeviceError) (s : P) (d : Device) (t : P) (e : Device) : Type 0 where
  pub heard : List (List ℕ)
  pub lost : List (List ℕ)
  pub answers : List (List ℕ)
  pub given : List (List ℕ)
  pub sent : List (List ℕ)
  pub middle : P
  pub few : length heard + length lost ≤ 16
  pub all_heard : HearsAll hears now s heard middle answers
  pub ticked : ((t ≡ middle) × (given ≡ [])) ⊎ TicksBehind ticks now heard lost answers given sent middle d t e
  pub part : IsPart (answers ++ given) sent
  pub explained : Explains fault d lost e
  pub carries : tells → Carries d (heard ++ lost) sent e
