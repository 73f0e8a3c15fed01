use Rattle.std.proofs.Common.{◌≡◌, ◌+◌, ◌*◌, ◌-◌, ◌≤◌, []}
use Rattle.log_memory.specs.Rights.{IsAnything, IsHalfway, IsRun}
use Rattle.log_memory.specs.Steps.{IsRoomAt}
use Rattle.log_memory.proofs.rights.deal_room.Given as goal

-- so many units have their room, and the rest of the run is in hand
abbrev pub invariant-loop-dealt : goal.invariant-loop-dealt
invariant-loop-dealt l =
    (l.dealt ≤ l.units) × (l.seat.table_id ≡ l.fn.seat.table_id) × (l.seat.id ≡ l.fn.seat.id) × (l.seat.me.0 ≡ l.fn.seat.me.0)
    × IsHalfway IsAnything (IsRoomAt l.table.key) l.first (8 * l.units) (8 * l.dealt) [] l.seat.me.1 × IsRun l.table.key (l.first + 8 * l.dealt) (32 * (l.units - l.dealt)) l.rest

abbrev pub decreases-loop-dealt : goal.decreases-loop-dealt
decreases-loop-dealt l = l.units - l.dealt
