use Rattle.std.proofs.Common.{rules, ap, sym, arith, ◌∙◌}
use Rattle.image_rule.specs.declared.view.Key.{Key}
use Rattle.image_rule.proofs.Dealing.{deal}
use Rattle.image.proofs.inserter.deal_as.Goals as goal

pub split_seat-seat-requires : goal.split_seat-seat-requires
split_seat-seat-requires g c = let i = c.args.image.now in let n = c.args.hand.now in let wide = i.wide in (search rules, omega arith, deal i.table.shared.key _ n.seat.me.0 c.args.number g.N.Chosen.number c.requires.some (c.requires.chosen ∙ c.requires.join ∙ sym (ap (λ (k : Key). k.join) i.is_of)))
