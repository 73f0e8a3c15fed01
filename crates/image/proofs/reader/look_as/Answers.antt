use Rattle.std.proofs.Common.{rules, sym, ◌∙◌, arith}
use Rattle.image.proofs.SeatSteps.{look_carries_here, look_here, look_stays}
use Rattle.image.proofs.reader.look_as.Goals as goal

pub load-requires : goal.load-requires
load-requires g c =
    let i = c.args.image.now in let r = c.args.reader.now in let wide = i.wide in let same = i.units_is in let place = c.held_word-place.ensures in let inside = place.inside in
    (search rules, omega arith, look_here i.table.shared.key g.N.Picked.site i.key _ _ r.seat.me c.held_word-place.result r.unit i.is_of c.requires.chosen r.reads r.unit_is place.is)

pub invariant_of-reader-clause-plain : goal.invariant_of-reader-clause-plain
invariant_of-reader-clause-plain g c = let r = c.args.reader.now in let s = look_stays g.N.Picked.site c.load.result r.seat.me c.load.new.seat.me c.load.ensures.2 in s.inserting ∙ r.plain

pub invariant_of-reader-clause-reads : goal.invariant_of-reader-clause-reads
invariant_of-reader-clause-reads g c = let r = c.args.reader.now in let s = look_stays g.N.Picked.site c.load.result r.seat.me c.load.new.seat.me c.load.ensures.2 in s.reads ∙ r.reads

pub invariant_of-reader-clause-number_is : goal.invariant_of-reader-clause-number_is
invariant_of-reader-clause-number_is g c = let r = c.args.reader.now in let s = look_stays g.N.Picked.site c.load.result r.seat.me c.load.new.seat.me c.load.ensures.2 in r.number_is ∙ sym s.number

pub invariant_of-reader-clause-unit_is : goal.invariant_of-reader-clause-unit_is
invariant_of-reader-clause-unit_is g c = let r = c.args.reader.now in let s = look_stays g.N.Picked.site c.load.result r.seat.me c.load.new.seat.me c.load.ensures.2 in r.unit_is ∙ sym s.unit

pub invariant_of-reader-clause-carries : goal.invariant_of-reader-clause-carries
invariant_of-reader-clause-carries g c =
    let i = c.args.image.now in let r = c.args.reader.now in
    look_carries_here i.table.shared.key g.N.Picked.site i.key r.units c.load.result r.region r.seat.me c.load.new.seat.me i.is_of c.requires.chosen c.requires.ring.0 c.requires.ring.1 r.carries c.load.ensures.2
