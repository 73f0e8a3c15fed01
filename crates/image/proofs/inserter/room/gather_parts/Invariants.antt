use Rattle.std.proofs.Common.{◌≡◌, ◌-◌, ◌*◌, ◌^◌, ◌≤◌}
use Rattle.image_rule.specs.Frames.{IsPart, ring}
use Rattle.image.specs.Parts.{AnyPart, IsShare, Turning}
use Rattle.image.proofs.inserter.room.gather_parts.Given as goal

abbrev pub invariant-loop-left : goal.invariant-loop-left
invariant-loop-left g l =
    let n = g.N.Parted in
    (l.hand.seat.table_id ≡ l.fn.hand.seat.table_id) × (l.hand.seat.me.0 ≡ l.fn.hand.seat.me.0) × (l.left ≤ 7) × Turning n.site (IsPart (ring n.site.key) n.site.region n.frame n.round n.book) AnyPart l.unit l.left l.hand.seat.me.1
    × IsShare (ring n.site.key) n.site.region n.frame ((8 - l.left) * 2 ^ 60) l.whole × (l.whole.round ≡ record { life = n.round; book = n.book })

abbrev pub decreases-loop-left : goal.decreases-loop-left
decreases-loop-left g l = l.left
