use Rattle.image_rule.specs.Frames.{ring}
use Rattle.image.proofs.Freeing.{may_free, may_take_next}
use Rattle.image.proofs.inserter.clearing.free_frame.Goals as goal

pub take_frame-whole-requires-clause-may : goal.take_frame-whole-requires-clause-may
take_frame-whole-requires-clause-may c = let i = c.args.image.now in let h = c.args.hand.now in may_take_next i.key h.seat.me.0 c.args.unit h.inserts c.requires.idle.1 c.requires.exact c.requires.next c.requires.passed

pub free_as-requires-clause-may : goal.free_as-requires-clause-may
free_as-requires-clause-may c =
    let i = c.args.image.now in let h = c.args.hand.now in
    may_free i.table.shared.key h.seat.me.0 c.take_frame-whole.new.hand.seat.me c.args.unit (ring i.key) c.take_frame-whole.ensures.out h.inserts c.requires.next c.requires.passed c.take_frame-whole.ensures.slots
