use Rattle.std.proofs.Common.{◌≡◌, ◌+◌, ◌*◌, ◌/◌, sym, ap, ◌∙◌, subst, arith}
use Rattle.image_rule.specs.declared.view.Frame.{Frame}
use Rattle.image_rule.specs.Frames.{end_of}
use Rattle.image_rule.specs.Reads.{IsRead, first_of}
use Rattle.image_rule.specs.Steps.{Mine}
use Rattle.image.specs.Parts.{CarriesPart, part_in}
use Rattle.image.proofs.Finds.{ends_here, head_said}
use Rattle.image.proofs.SeatSteps.{back_again, front_is, front_now}
use Rattle.image.proofs.reader.reading.read_held.Goals as goal

pub exchange-part-requires : goal.exchange-part-requires
exchange-part-requires g c =
    let i = c.args.image.now in let r = c.args.reader.now in
    (c.requires.fits, (part_in r.seat.me.1, front_is i.key r.units r.region r.seat.me c.slot-slot.result r.unit r.number c.requires.ring.0 r.unit_is r.number_is c.slot-slot.ensures.is (r.carries.part c.requires.found.1)))

pub exchange-none-requires : goal.exchange-none-requires
exchange-none-requires g c =
    let r = c.args.reader.now in
    (c.exchange-part.ensures.0 ∙ c.requires.fits, (c.none.result, front_now r.seat.me c.exchange-part.new.seat.me c.slot-slot.result c.none.result c.exchange-part.ensures.3))

pub invariant_of-reader-clause-plain : goal.invariant_of-reader-clause-plain
invariant_of-reader-clause-plain g c =
    let r = c.args.reader.now in
    let e : c.exchange-none.new.seat.me ≡ r.seat.me = back_again r.seat.me c.exchange-part.new.seat.me c.exchange-none.new.seat.me c.slot-slot.result c.exchange-part.result c.none.result c.exchange-part.ensures.2 c.exchange-part.ensures.3 c.exchange-none.ensures.3 in
    ap (λ (m : Mine). m.0.inserting) e ∙ r.plain

pub invariant_of-reader-clause-read : goal.invariant_of-reader-clause-read
invariant_of-reader-clause-read g c lt =
    let r = c.args.reader.now in let f : Frame = first_of r.seat.me.0.reading.known in let found = c.requires.found.0 in
    let e : c.exchange-none.new.seat.me ≡ r.seat.me = back_again r.seat.me c.exchange-part.new.seat.me c.exchange-none.new.seat.me c.slot-slot.result c.exchange-part.result c.none.result c.exchange-part.ensures.2 c.exchange-part.ensures.3 c.exchange-none.ensures.3 in
    let ends : r.unit + c.from.result / 32 ≡ end_of f = ends_here f (32 * r.unit) r.unit c.from.result c.shown_head-head.result found.says (c.shown_head-head.ensures ∙ ap (λ (x : Frame). head_said r.unit x) c.requires.chosen) (found.here ∙ sym r.unit_is) (c.from.ensures ∙ c.align32.ensures) in
    (subst (λ (m : Mine). IsRead m.0 (r.unit + c.from.result / 32)) (sym e) (record { some = found.some; here = found.here; ends = ends; low = (let l = found.low in omega (arith, ends)) }), ap (λ (m : Mine). m.0.reading.holds) e ∙ c.requires.found.1)

pub invariant_of-reader-clause-carries : goal.invariant_of-reader-clause-carries
invariant_of-reader-clause-carries g c =
    let r = c.args.reader.now in
    let e : c.exchange-none.new.seat.me ≡ r.seat.me = back_again r.seat.me c.exchange-part.new.seat.me c.exchange-none.new.seat.me c.slot-slot.result c.exchange-part.result c.none.result c.exchange-part.ensures.2 c.exchange-part.ensures.3 c.exchange-none.ensures.3 in
    subst (CarriesPart r.units r.region) (sym e) r.carries
