use Rattle.std.proofs.Common.{◌≡◌, ◌-◌, ◌≤◌, ◌⊎◌}
use Rattle.image_rule.specs.Bits.{AreFree}
use Rattle.image.proofs.inserter.looking.units_free.Given as goal

abbrev pub ghosts-fetch_as : goal.ghosts-fetch_as
ghosts-fetch_as a = record { number = a.place }

-- the units so far weren't stored
abbrev pub invariant-loop-at : goal.invariant-loop-at
invariant-loop-at l = (l.hand.seat.table_id ≡ l.fn.hand.seat.table_id) × (l.hand.seat.me ≡ l.fn.hand.seat.me) × (l.from ≤ l.at) × ((l.at ≤ l.to) ⊎ (l.at ≡ l.from)) × AreFree l.fn.hand.seat.me.0.held l.from l.at

abbrev pub decreases-loop-at : goal.decreases-loop-at
decreases-loop-at l = l.to - l.at
