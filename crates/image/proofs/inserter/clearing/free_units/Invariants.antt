use Rattle.std.proofs.Common.{◌≡◌, ◌-◌, ◌≤◌, []}
use Rattle.image_rule.specs.Frames.{ring}
use Rattle.image.specs.Memory.{HasMemory}
use Rattle.image.proofs.inserter.clearing.free_units.Given as goal

abbrev pub invariant-loop-at : goal.invariant-loop-at
invariant-loop-at l =
    (l.hand.seat.table_id ≡ l.fn.hand.seat.table_id) × (l.at ≤ l.to) × (l.hand.seat.me.1 ≡ []) × (l.hand.seat.me.0 ≡ record l.fn.hand.seat.me.0 { held = record l.fn.hand.seat.me.0.held { freed = l.at; out = 0 } }) × (l.room.pool.identity ≡ l.fn.room.pool.identity)
    × HasMemory (ring l.image.key) l.hand.seat.me.0.held l.room.pool.free l.heads

abbrev pub decreases-loop-at : goal.decreases-loop-at
decreases-loop-at l = l.to - l.at
