use Rattle.std.proofs.Common.{arith, length, rules, sym, true, false, ◌<◌}
use Rattle.one_hand.proofs.Seats.{below_first, counts_on}
use Rattle.one_hand.proofs.log_hand.consumer.place_of.Goals as goal
use Rattle.one_hand.proofs.log_hand.consumer.place_of.Goals.{then-there-other, else-there-other}

pub loop-other-init : goal.loop-other-init
loop-other-init c = (sym (below_first c.args.there.now), omega arith)

pub loop-other-preserved : goal.loop-other-preserved
loop-other-preserved c =
    let k = c.loop-other.other in
    let inside : c.loop-other.other < length c.args.there.now = search rules in
    elim c.if-there-other.branch [
      | then-there-other w ↦ counts_on c.args.there.now k c.loop-other.place c.if-there-other.place true inside w.if-there-other.true c.loop-other.invariant.0 c.loop-other.invariant.1 w.place-is
      | else-there-other w ↦ counts_on c.args.there.now k c.loop-other.place c.if-there-other.place false inside w.if-there-other.false c.loop-other.invariant.0 c.loop-other.invariant.1 (let e = w.place-is in omega (arith, e))
    ]
