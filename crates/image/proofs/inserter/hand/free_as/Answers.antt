use Rattle.std.proofs.Common.{rules, arith}
use Rattle.image.proofs.SeatSteps.{free_here}
use Rattle.image.proofs.inserter.hand.free_as.Goals as goal

pub load-requires : goal.load-requires
load-requires g c =
    let i = c.args.image.now in let n = c.args.hand.now in let wide = i.wide in let same = i.units_is in let some = i.is_key.some in let whole = i.is_key.whole in
    (search rules, omega arith, free_here i.table.shared.key g.N.Picked.site _ _ n.seat.me g.N.Picked.frame _ c.requires.chosen.0 c.requires.may)
