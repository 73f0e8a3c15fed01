use Rattle.std.proofs.Common.{◌≡◌, ◌*◌, ◌-◌, ◌<◌, ◌≤◌}
use Rattle.log_memory.specs.Rights.{IsAnything, IsHalfway, IsRun}
use Rattle.log_memory.specs.Steps.{IsRoomAt}
use Rattle.log_memory.proofs.rights.gather.Given as goal

-- so many units are in the run, and their slots went behind the others
abbrev pub invariant-loop-taken : goal.invariant-loop-taken
invariant-loop-taken g l =
    (0 < l.taken) × (l.taken ≤ l.units) × (l.seat.table_id ≡ l.fn.seat.table_id) × (l.seat.id ≡ l.fn.seat.id) × (l.seat.me.0 ≡ l.fn.seat.me.0)
    × IsHalfway (IsRoomAt l.table.key) IsAnything l.first (8 * l.units) (8 * l.taken) g.N.Rowed.behind l.seat.me.1 × IsRun l.table.key l.first (32 * l.taken) l.run

abbrev pub decreases-loop-taken : goal.decreases-loop-taken
decreases-loop-taken g l = l.units - l.taken
