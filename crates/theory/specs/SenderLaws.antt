-- Laws on what a sender is told, and on the SETUP that it sends.
use Rattle.std.specs.Prelude.{◌≡◌, ℕ, ◌≤◌, ◌%◌, ◌↔◌, ℤ, List, ◌∷◌}
use Rattle.theory.specs.Position.{Geometry, IsGeometry, max_position}
use Rattle.theory.specs.Placed.{Placed}
use Rattle.theory.specs.Bytes.{Identity}
use Rattle.theory.specs.FlowLimit.{IsFlowLimit, Said, flow_limit}
use Rattle.theory.specs.GroupLimit.{GroupEvent, group_limit, said_of}
use Rattle.theory.specs.Resend.{Action, IsTaken, Taken, nak_answer}
use Rattle.theory.specs.Image.{IsWindow}
use Rattle.theory.specs.Wire.{Setup}
use Rattle.theory.specs.Control.{setup_fields}
use Rattle.theory.specs.Setup.{HasSetupFault, OpensAt, SetupFault}

abbrev pub LimitIsGreatest : Type 0
LimitIsGreatest = (start : ℕ) (said : List Said) → IsFlowLimit start said (flow_limit start said)

abbrev pub TakesExactly : Type 0
TakesExactly = (g : Geometry) (start s : ℕ) (sent : List Placed) (actions : List Action) (position length : ℤ) → (nak_answer g start s sent actions position length ≡ Taken) ↔ IsTaken g start s sent actions position length

-- a sender's SETUP opens an image of its geometry at its position
abbrev pub SetupOpens : Type 0
SetupOpens = (i : Identity) (p window : ℕ) → IsGeometry i.geometry → p ≤ max_position i.geometry → p % 32 ≡ 0 → IsWindow i.geometry.term_length i.geometry.mtu window → OpensAt (setup_fields i p) window i.geometry p

-- a SETUP has one fault at the most, and none where it opens an image
abbrev pub HasOneFault : Type 0
HasOneFault = (f : Setup) (window : ℕ) (a : SetupFault) → HasSetupFault f window a → ((b : SetupFault) → HasSetupFault f window b → a ≡ b) × ((g : Geometry) (p : ℕ) → OpensAt f window g p → ⊥)

-- a group's limit never falls, and is never above the limit that the same status messages give without a group
abbrev pub GroupWithin : Type 0
GroupWithin = (group start : ℕ) (heard : GroupEvent) (before : List GroupEvent) → (group_limit group start before ≤ group_limit group start (heard ∷ before)) × (group_limit group start before ≤ flow_limit start (said_of before))
