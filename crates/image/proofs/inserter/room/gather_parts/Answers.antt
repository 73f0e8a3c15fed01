use Rattle.std.proofs.Common.{◌≡◌, ℕ, subst, arith}
use Rattle.image_rule.specs.Frames.{IsPart, ring}
use Rattle.image.specs.Parts.{AnyPart, Turning}
use Rattle.image.proofs.Turned.{turn_first, turn_last}
use Rattle.image.proofs.inserter.room.gather_parts.Goals as goal

pub take_part-whole-requires-clause-turning : goal.take_part-whole-requires-clause-turning
take_part-whole-requires-clause-turning g c = let n = g.N.Parted in turn_first n.site (IsPart (ring n.site.key) n.site.region n.frame n.round n.book) AnyPart c.args.unit c.args.hand.now.seat.me.1 c.requires.slots

pub returns-clause-slots : goal.returns-clause-slots
returns-clause-slots g c =
    let n = g.N.Parted in let stop = c.loop-left-test.false in let zero : c.loop-left.left ≡ 0 = omega arith in let mine = c.loop-left.hand.seat.me.1 in
    turn_last n.site (IsPart (ring n.site.key) n.site.region n.frame n.round n.book) AnyPart c.args.unit mine
    (subst (λ (k : ℕ). Turning n.site (IsPart (ring n.site.key) n.site.region n.frame n.round n.book) AnyPart c.args.unit k mine) zero c.loop-left.invariant.3)
