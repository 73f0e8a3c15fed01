use Rattle.std.proofs.Common.{◌≡◌, ◌*◌, ◌^◌, ◌<◌, ◌≤◌}
use Rattle.image_rule.specs.Bits.{Sweeps}
use Rattle.image.proofs.inserter.clearing.see_all.Given as goal

abbrev pub ghosts-see_as : goal.ghosts-see_as
ghosts-see_as a = record { number = a.number }

abbrev pub invariant-loop-number : goal.invariant-loop-number
invariant-loop-number l = (l.hand.seat.table_id ≡ l.fn.hand.seat.table_id) × (l.hand.seat.me.1 ≡ l.fn.hand.seat.me.1) × (1 ≤ l.number) × Sweeps l.image.key l.fn.hand.seat.me.0 l.number l.least l.hand.seat.me.0 × (32 * l.least < 2 ^ 64)
