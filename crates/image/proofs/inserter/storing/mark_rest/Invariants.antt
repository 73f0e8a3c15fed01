use Rattle.std.proofs.Common.{◌≡◌, ◌-◌, ◌%◌, ◌≤◌, ◌⊎◌}
use Rattle.image_rule.specs.Bits.{Marked, next_word, rest_end}
use Rattle.image.specs.Drafted.{drafted}
use Rattle.image.proofs.inserter.storing.mark_rest.Given as goal

abbrev pub ghosts-set_bits_as : goal.ghosts-set_bits_as
ghosts-set_bits_as a = record { place = a.place; floor = a.hand.now.seat.me.0.held.floor }

abbrev pub invariant-loop-at : goal.invariant-loop-at
invariant-loop-at l =
    let f = drafted l.fn.draft in
    (l.hand.seat.table_id ≡ l.fn.hand.seat.table_id) × (l.hand.seat.me.1 ≡ l.fn.hand.seat.me.1) × (next_word f ≤ l.at) × (l.at ≤ rest_end f) × ((l.at % 64 ≡ 0) ⊎ (l.end ≤ l.at)) × Marked l.image.key l.fn.hand.seat.me.0 f (next_word f) l.at l.hand.seat.me.0

abbrev pub decreases-loop-at : goal.decreases-loop-at
decreases-loop-at l = l.end - l.at
