use Rattle.std.proofs.Common.{rules, arith}
use Rattle.image.proofs.SeatSteps.{change_here}
use Rattle.image.proofs.inserter.hand.change_as.Goals as goal

pub store-requires : goal.store-requires
store-requires g c =
    let i = c.args.image.now in let n = c.args.hand.now in let wide = i.wide in let same = i.units_is in let inside = c.requires.inside in
    (search rules, omega arith, change_here i.table.shared.key i.key _ _ n.seat.me c.args.place g.N.Changing.place c.args.word g.N.Changing.floor i.is_of c.requires.chosen.0 c.requires.inside c.requires.may c.requires.raise)
