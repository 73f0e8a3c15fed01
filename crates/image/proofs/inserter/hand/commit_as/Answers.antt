use Rattle.std.proofs.Common.{rules, arith}
use Rattle.image.proofs.SeatSteps.{commit_here}
use Rattle.image.proofs.inserter.hand.commit_as.Goals as goal

pub store-requires : goal.store-requires
store-requires g c =
    let i = c.args.image.now in let n = c.args.hand.now in let wide = i.wide in let same = i.units_is in let inside = c.requires.inside in
    (search rules, omega arith, commit_here i.table.shared.key g.N.Picked.site i.key _ _ n.seat.me g.N.Picked.frame c.args.place g.N.Picked.place c.args.word i.is_of c.requires.chosen.0 c.requires.chosen.1 n.inserts c.requires.inside c.requires.may c.requires.parts)
