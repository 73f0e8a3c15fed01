-- What a receiver publishes of its positions, and how that stands to them later.
use Rattle.std.specs.Prelude.{◌≡◌, ℕ, ◌+◌, ◌*◌, ◌<◌, ◌≤◌, [], ◌∷◌, Option, None, Some}
use Rattle.atomic_table.specs.Seated.{TableId}
use Rattle.theory.specs.Units.{HasUnit}
use Rattle.endpoint.specs.Devices.{Device, NeverFall}
use Rattle.agents.specs.Cycles.{DutyState}
use Rattle.counters.specs.Order.{IsAtMost, zeros}
use Rattle.counters.specs.Parties.{WriterSeen}
use Rattle.counters.specs.declared.readings.Readings.{Readings}
use Rattle.image.specs.Rebuilding.{Inserting, join_of}
use Rattle.receiver.specs.Polling.{TellsImage}
use Rattle.receiver.specs.Representing.{Core}
use Rattle.receiver.specs.declared.positions.Positions.{Positions}

-- the name of no counters
abbrev pub no_counters : TableId
no_counters = record { words = 0; slots = 0; views_name = 0; atom = 0; block = 0; offset = 0; slot_names = [] }

-- what a contract sees of a receiver's agent
pub record AgentState : Type 0 where
  pub core : Core
  pub writer : WriterSeen

-- positions, as they are published
abbrev pub shown : Positions → Readings
shown p = record { least = p.least; rebuilt = p.rebuilt; high_water = p.high_water }

-- the writer when it has published these as well; without an image there are none
abbrev pub having_published : WriterSeen → Option Positions → WriterSeen
having_published w None = w
having_published w (Some p) = record w { last = shown p; published = shown p ∷ w.published }

-- the positions that the image's inserter tells were published
abbrev pub Publishes : Option Inserting → WriterSeen → WriterSeen → Type 0
Publishes image old new = (told : Option Positions) × TellsImage image told × (new ≡ having_published old told)

-- readings that are no more than these positions; zeros while there are none
abbrev pub IsUpTo : Readings → Option Positions → Type 0
IsUpTo k None = k ≡ zeros
IsUpTo k (Some p) = IsAtMost k (shown p)

-- ---- readings of a receiver that goes on

-- an image has come as far: no consumer was below the least when its inserter looked last, and each unit from the join up to what
-- was rebuilt is there
pub record IsReachedBy (k : Readings) (i : Inserting) : Type 0 where
  pub least : k.least ≤ i.floor
  pub rebuilt : (n : ℕ) → join_of i + 32 * n < k.rebuilt → HasUnit i.stored (join_of i + 32 * n)
  pub high : k.high_water ≤ i.high

abbrev pub HasReached : Option Inserting → Readings → Type 0
HasReached None k = k ≡ zeros
HasReached (Some i) k = IsReachedBy k i

-- the writer is the one of these counters, and the core has come as far as what it published last
pub record IsPublishing (counters : TableId) (v : Core) (w : WriterSeen) : Type 0 where
  pub named : w.counters ≡ counters
  pub reached : HasReached v.image w.last

-- ---- a device with its room

-- what a cycle keeps of them
pub record StaysDuty {D : Type 0} (device : D → Device) (tells : D → Type 0) (old new : DutyState D) : Type 0 where
  pub counts : NeverFall (device old.device) (device new.device)
  pub mtu : new.mtu ≡ old.mtu
  pub still_tells : tells old.device → tells new.device
