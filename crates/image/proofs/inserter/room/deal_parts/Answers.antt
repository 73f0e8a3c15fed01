use Rattle.std.proofs.Common.{◌≡◌, ℕ, refl, subst, arith}
use Rattle.image_rule.specs.Frames.{IsPart, ring}
use Rattle.image.specs.Parts.{AnyPart, Turning}
use Rattle.image.proofs.Turned.{turn_first, turn_last}
use Rattle.image.proofs.inserter.room.deal_parts.Goals as goal

pub loop-left-init : goal.loop-left-init
loop-left-init g c =
    let n = g.N.Parted in
    (refl, refl, omega arith, turn_first n.site AnyPart (IsPart (ring n.site.key) n.site.region n.frame n.round n.book) c.args.draft.now.unit c.args.hand.now.seat.me.1 c.requires.slots, c.requires.whole, c.requires.chosen.1)

pub returns-clause-slots : goal.returns-clause-slots
returns-clause-slots g c =
    let n = g.N.Parted in let stop = c.loop-left-test.false in let zero : c.loop-left.left ≡ 0 = omega arith in let mine = c.loop-left.hand.seat.me.1 in
    turn_last n.site AnyPart (IsPart (ring n.site.key) n.site.region n.frame n.round n.book) c.args.draft.now.unit mine
    (subst (λ (k : ℕ). Turning n.site AnyPart (IsPart (ring n.site.key) n.site.region n.frame n.round n.book) c.args.draft.now.unit k mine) zero c.loop-left.invariant.3)
