use Rattle.std.proofs.Common.{rules, arith, ap, ◌*◌, ℕ}
use Rattle.image_rule.proofs.Moves.{move}
use Rattle.image.proofs.reader.move_as.Goals as goal

pub store-requires : goal.store-requires
store-requires g c =
    let i = c.args.image.now in let r = c.args.reader.now in let wide = i.wide in let few = r.few in
    (search rules, omega arith, move i.table.shared.key _ _ r.seat.me g.N.Picked.frame r.number _ r.number_is (ap (λ (x : ℕ). 32 * x) c.requires.ends) c.requires.may)
