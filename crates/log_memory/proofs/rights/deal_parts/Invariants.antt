use Rattle.std.proofs.Common.{◌≡◌, ◌*◌, ◌-◌, ◌^◌, ◌≤◌}
use Rattle.log_memory.specs.Rights.{IsAnything, IsEighthAt, IsHalfway}
use Rattle.log_memory.proofs.rights.deal_parts.Given as goal

-- so many eighths are dealt, and the others are in hand
abbrev pub invariant-loop-dealt : goal.invariant-loop-dealt
invariant-loop-dealt g l =
    (l.dealt ≤ 8) × (l.rest ≡ record l.fn.whole { count = (8 - l.dealt) * 2 ^ 60 }) × (l.seat.table_id ≡ l.fn.seat.table_id) × (l.seat.id ≡ l.fn.seat.id) × (l.seat.me.0 ≡ l.fn.seat.me.0)
    × IsHalfway IsAnything (IsEighthAt l.first l.fn.whole) l.first (8 * l.units) l.dealt g.N.Rowed.behind l.seat.me.1

abbrev pub decreases-loop-dealt : goal.decreases-loop-dealt
decreases-loop-dealt g l = 8 - l.dealt
