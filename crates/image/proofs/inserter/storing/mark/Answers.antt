use Rattle.std.proofs.Common.{◌∙◌}
use Rattle.image_rule.specs.declared.view.Frame.{Frame}
use Rattle.image_rule.specs.Bits.{next_word, rest_end}
use Rattle.image_rule.proofs.Storing.{marked_after, marked_self, may_on, stored_after}
use Rattle.image.specs.Drafted.{drafted}
use Rattle.image.proofs.Storings.{commit_on}
use Rattle.image.proofs.inserter.storing.mark.Goals as goal

pub mark_rest-requires-clause-may : goal.mark_rest-requires-clause-may
mark_rest-requires-clause-may c =
    let i = c.args.image.now in let h = c.args.hand.now in let f : Frame = drafted c.args.draft.now in let b = c.set_start.ensures.marked in
    may_on i.key h.seat.me.0.held c.set_start.new.hand.seat.me.0.held f b.floor b.got c.requires.may

pub mark_rest-requires-clause-marked : goal.mark_rest-requires-clause-marked
mark_rest-requires-clause-marked c =
    let i = c.args.image.now in let h = c.args.hand.now in let f : Frame = drafted c.args.draft.now in
    marked_self i.key h.seat.me.0 c.set_start.new.hand.seat.me.0 f (next_word f) (next_word f) c.set_start.ensures.marked

pub set_first_as-requires-clause-may : goal.set_first_as-requires-clause-may
set_first_as-requires-clause-may c =
    let i = c.args.image.now in let h = c.args.hand.now in let f : Frame = drafted c.args.draft.now in let b = c.set_start.ensures.marked in let d = c.mark_rest.ensures.marked in
    may_on i.key h.seat.me.0.held c.mark_rest.new.hand.seat.me.0.held f (d.floor ∙ b.floor) (d.got ∙ b.got) c.requires.may

pub set_first_as-requires-clause-marked : goal.set_first_as-requires-clause-marked
set_first_as-requires-clause-marked c =
    let i = c.args.image.now in let f : Frame = drafted c.args.draft.now in
    marked_self i.key c.set_start.new.hand.seat.me.0 c.mark_rest.new.hand.seat.me.0 f (next_word f) (rest_end f) c.mark_rest.ensures.marked

pub set_first_as-requires-clause-parts : goal.set_first_as-requires-clause-parts
set_first_as-requires-clause-parts c =
    let i = c.args.image.now in let h = c.args.hand.now in let f : Frame = drafted c.args.draft.now in let b = c.set_start.ensures.marked in let d = c.mark_rest.ensures.marked in
    commit_on i.table.shared.key f h.seat.me c.mark_rest.new.hand.seat.me (d.out ∙ b.out) (c.mark_rest.ensures.slots ∙ c.set_start.ensures.slots) c.requires.parts

pub returns-clause-stored : goal.returns-clause-stored
returns-clause-stored c =
    let i = c.args.image.now in let h = c.args.hand.now in let f : Frame = drafted c.args.draft.now in
    stored_after i.key h.seat.me.0 c.mark_rest.new.hand.seat.me.0 c.set_first_as.new.hand.seat.me.0 f
    (marked_after i.key h.seat.me.0 c.set_start.new.hand.seat.me.0 c.mark_rest.new.hand.seat.me.0 f (next_word f) (next_word f) (rest_end f) c.set_start.ensures.marked c.mark_rest.ensures.marked) c.set_first_as.ensures.stored
