use Rattle.std.proofs.Common.{ap, ◌∙◌, subst}
use Rattle.atomic_table.specs.Table.{rest, turned}
use Rattle.image_rule.specs.Frames.{IsPart, ring}
use Rattle.image_rule.specs.Steps.{Mine}
use Rattle.image.specs.Parts.{AnyPart}
use Rattle.image.proofs.Turned.{front_slot, same_front, same_slot, turn_on}
use Rattle.image.proofs.inserter.room.take_part.Goals as goal

pub exchange-part-requires : goal.exchange-part-requires
exchange-part-requires g c =
    let i = c.args.image.now in let n = g.N.Parted in
    let at = same_slot i.key n.site i.table.shared.key c.args.unit c.args.number c.slot-slot.result c.requires.chosen i.is_of c.slot-slot.ensures.is in
    let x = front_slot n.site (IsPart (ring n.site.key) n.site.region n.frame n.round n.book) AnyPart c.args.unit c.args.number c.slot-slot.result c.args.hand.now.seat.me.1 at c.requires.turning in
    (c.requires.fits, (x.0, x.2))

pub returns-clause-turning : goal.returns-clause-turning
returns-clause-turning g c =
    let i = c.args.image.now in let n = g.N.Parted in
    let at = same_slot i.key n.site i.table.shared.key c.args.unit c.args.number c.slot-slot.result c.requires.chosen i.is_of c.slot-slot.ensures.is in
    turn_on n.site (IsPart (ring n.site.key) n.site.region n.frame n.round n.book) AnyPart c.args.unit c.args.number c.slot-slot.result c.args.hand.now.seat.me.1 c.turn.new.self.me.1 c.none.result at c.requires.turning tt
    (ap (λ (m : Mine). m.1) c.turn.ensures.2 ∙ ap (λ (m : Mine). turned m.1) c.exchange-part.ensures.3)

pub returns-clause-part : goal.returns-clause-part
returns-clause-part g c =
    let i = c.args.image.now in let n = g.N.Parted in let mine = c.args.hand.now.seat.me.1 in
    let at = same_slot i.key n.site i.table.shared.key c.args.unit c.args.number c.slot-slot.result c.requires.chosen i.is_of c.slot-slot.ensures.is in
    let x = front_slot n.site (IsPart (ring n.site.key) n.site.region n.frame n.round n.book) AnyPart c.args.unit c.args.number c.slot-slot.result mine at c.requires.turning in
    subst (IsPart (ring n.site.key) n.site.region n.frame n.round n.book) (same_front mine c.slot-slot.result c.slot-slot.result x.0 c.exchange-part.result (rest mine) (rest mine) x.2 c.exchange-part.ensures.2) x.1
