use Rattle.std.proofs.Common.{ap, ◌∙◌}
use Rattle.atomic_table.specs.Table.{turned}
use Rattle.image_rule.specs.Frames.{IsPart, ring}
use Rattle.image_rule.specs.Steps.{Mine}
use Rattle.image.specs.Parts.{AnyPart}
use Rattle.image.proofs.Turned.{front_slot, same_slot, turn_on}
use Rattle.image.proofs.inserter.room.put_part.Goals as goal

pub exchange-old-requires : goal.exchange-old-requires
exchange-old-requires g c =
    let i = c.args.image.now in let n = g.N.Parted in
    let at = same_slot i.key n.site i.table.shared.key c.args.unit c.args.number c.slot-slot.result c.requires.chosen i.is_of c.slot-slot.ensures.is in
    let x = front_slot n.site AnyPart (IsPart (ring n.site.key) n.site.region n.frame n.round n.book) c.args.unit c.args.number c.slot-slot.result c.args.hand.now.seat.me.1 at c.requires.turning in
    (c.requires.fits, (x.0, x.2))

pub returns-clause-turning : goal.returns-clause-turning
returns-clause-turning g c =
    let i = c.args.image.now in let n = g.N.Parted in
    let at = same_slot i.key n.site i.table.shared.key c.args.unit c.args.number c.slot-slot.result c.requires.chosen i.is_of c.slot-slot.ensures.is in
    turn_on n.site AnyPart (IsPart (ring n.site.key) n.site.region n.frame n.round n.book) c.args.unit c.args.number c.slot-slot.result c.args.hand.now.seat.me.1 c.turn.new.self.me.1 c.args.part at c.requires.turning c.requires.part
    (ap (λ (m : Mine). m.1) c.turn.ensures.2 ∙ ap (λ (m : Mine). turned m.1) c.exchange-old.ensures.3)
