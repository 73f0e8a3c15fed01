use Rattle.std.proofs.Common.{◌≡◌, ◌*◌, ◌^◌, ◌≤◌}
use Rattle.image_rule.specs.Frames.{IsPart, ring}
use Rattle.image.specs.Parts.{AnyPart, IsShare, Turning}
use Rattle.image.proofs.inserter.room.deal_parts.Given as goal

abbrev pub invariant-loop-left : goal.invariant-loop-left
invariant-loop-left g l =
    let n = g.N.Parted in
    (l.hand.seat.table_id ≡ l.fn.hand.seat.table_id) × (l.hand.seat.me.0 ≡ l.fn.hand.seat.me.0) × (l.left ≤ 8) × Turning n.site AnyPart (IsPart (ring n.site.key) n.site.region n.frame n.round n.book) l.draft.unit l.left l.hand.seat.me.1
    × IsShare (ring n.site.key) n.site.region n.frame (l.left * 2 ^ 60) l.rest × (l.rest.round ≡ record { life = n.round; book = n.book })

abbrev pub decreases-loop-left : goal.decreases-loop-left
decreases-loop-left g l = l.left
