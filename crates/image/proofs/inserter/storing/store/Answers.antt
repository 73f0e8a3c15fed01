use Rattle.std.proofs.Common.{refl, ap, ◌∙◌}
use Rattle.image_rule.specs.declared.view.View.{View}
use Rattle.image.specs.Drafted.{drafted}
use Rattle.image.proofs.Storings.{exact_out, may_out, may_take, slots_taken, stored_out}
use Rattle.image.proofs.inserter.storing.store.Goals as goal

pub take_as-requires-clause-may : goal.take_as-requires-clause-may
take_as-requires-clause-may c = let i = c.args.image.now in let h = c.args.hand.now in may_take i.key h.seat.me.0 (drafted c.args.draft.now) h.inserts c.requires.idle.1 c.requires.exact c.requires.may

pub deal_parts-requires-clause-slots : goal.deal_parts-requires-clause-slots
deal_parts-requires-clause-slots c =
    let i = c.args.image.now in let h = c.args.hand.now in let x = c.take_as.new.hand.seat.me in
    slots_taken i.table.shared.key i.key h.seat.me.0 h.seat.me.1 x x.0 c.args.draft.now.unit c.requires.idle.0 c.take_as.ensures.told refl

pub mark-requires-clause-parts : goal.mark-requires-clause-parts
mark-requires-clause-parts c = record {
  out = ap (λ (v : View). v.held.out) (c.deal_parts.ensures.same ∙ c.take_as.ensures.told.after);
  round = c.args.whole.round.life;
  book = c.args.whole.round.book;
  carries = c.deal_parts.ensures.slots;
}

pub mark-requires-clause-exact : goal.mark-requires-clause-exact
mark-requires-clause-exact c =
    let i = c.args.image.now in let h = c.args.hand.now in let x = c.take_as.new.hand.seat.me in
    exact_out i.table.shared.key i.key h.seat.me.0 h.seat.me.1 x c.deal_parts.new.hand.seat.me.0 c.args.draft.now.unit c.requires.idle.0 c.take_as.ensures.told c.deal_parts.ensures.same c.requires.exact

pub mark-requires-clause-may : goal.mark-requires-clause-may
mark-requires-clause-may c =
    let i = c.args.image.now in let h = c.args.hand.now in let x = c.take_as.new.hand.seat.me in
    may_out i.table.shared.key i.key h.seat.me.0 h.seat.me.1 x c.deal_parts.new.hand.seat.me.0 c.args.draft.now.unit c.requires.idle.0 c.take_as.ensures.told c.deal_parts.ensures.same (drafted c.args.draft.now) c.requires.may

pub returns-clause-stored : goal.returns-clause-stored
returns-clause-stored c =
    let i = c.args.image.now in let h = c.args.hand.now in let x = c.take_as.new.hand.seat.me in
    stored_out i.table.shared.key i.key h.seat.me.0 h.seat.me.1 x c.deal_parts.new.hand.seat.me.0 c.args.draft.now.unit c.requires.idle.0 c.take_as.ensures.told c.deal_parts.ensures.same (drafted c.args.draft.now) c.mark.new.hand.seat.me.0 c.mark.ensures.stored
