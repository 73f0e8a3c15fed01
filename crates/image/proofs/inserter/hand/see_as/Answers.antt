use Rattle.std.proofs.Common.{rules, arith}
use Rattle.image.proofs.SeatSteps.{see_here}
use Rattle.image.proofs.inserter.hand.see_as.Goals as goal

pub load-requires : goal.load-requires
load-requires g c =
    let i = c.args.image.now in let n = c.args.hand.now in let wide = i.wide in let few = i.is_key.few in let inside = c.requires.inside in
    (search rules, omega arith, see_here i.table.shared.key i.key _ _ n.seat.me c.args.number g.N.Chosen.number i.is_of c.requires.chosen n.inserts c.requires.inside)
