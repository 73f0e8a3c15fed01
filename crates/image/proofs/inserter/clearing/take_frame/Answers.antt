use Rattle.image_rule.specs.Frames.{ring}
use Rattle.image.proofs.Freeing.{gather_slots}
use Rattle.image.proofs.inserter.clearing.take_frame.Goals as goal

pub gather_parts-requires-clause-slots : goal.gather_parts-requires-clause-slots
gather_parts-requires-clause-slots c =
    let i = c.args.image.now in let h = c.args.hand.now in
    gather_slots i.table.shared.key h.seat.me.0 h.seat.me.1 c.take_as.new.hand.seat.me c.args.unit (ring i.key) c.requires.slots c.take_as.ensures.told c.requires.next
