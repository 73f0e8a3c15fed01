use Rattle.std.proofs.Common.{◌≡◌, ◌-◌, ◌≤◌}
use Rattle.image_rule.specs.Bits.{Cleared}
use Rattle.image.proofs.inserter.clearing.clear_units.Given as goal

abbrev pub invariant-loop-at : goal.invariant-loop-at
invariant-loop-at l = (l.hand.seat.table_id ≡ l.fn.hand.seat.table_id) × (l.hand.seat.me.1 ≡ l.fn.hand.seat.me.1) × (l.at ≤ l.to) × Cleared l.image.key l.fn.hand.seat.me.0 l.at l.hand.seat.me.0

abbrev pub decreases-loop-at : goal.decreases-loop-at
decreases-loop-at l = l.to - l.at
