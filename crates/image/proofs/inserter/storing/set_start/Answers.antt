use Rattle.std.proofs.Common.{ℕ, sym, subst}
use Rattle.image_rule.specs.declared.view.Frame.{Frame}
use Rattle.image_rule.specs.declared.view.View.{View}
use Rattle.image_rule.specs.Bits.{MaySet, SetsBits}
use Rattle.image_rule.proofs.Storing.{may_set_start, started_now}
use Rattle.image.specs.Drafted.{drafted}
use Rattle.image.proofs.inserter.storing.set_start.Goals as goal

pub set_bits_as-requires-clause-may : goal.set_bits_as-requires-clause-may
set_bits_as-requires-clause-may c =
    let i = c.args.image.now in let h = c.args.hand.now in let f : Frame = drafted c.args.draft.now in let v : View = h.seat.me.0 in
    subst (λ (x : ℕ). MaySet i.key v x c.args.draft.now.unit 1 v.held.floor v.held.got) (sym c.requires.there) (may_set_start i.key i.is_key v f h.inserts c.requires.may c.requires.exact)

pub returns-clause-marked : goal.returns-clause-marked
returns-clause-marked c =
    let i = c.args.image.now in let h = c.args.hand.now in let f : Frame = drafted c.args.draft.now in let v : View = h.seat.me.0 in let w : View = c.set_bits_as.new.hand.seat.me.0 in
    started_now i.key i.is_key v f h.inserts c.requires.may c.requires.exact w (subst (λ (x : ℕ). SetsBits v x c.args.draft.now.unit 1 v.held.floor v.held.got w) c.requires.there c.set_bits_as.ensures.set)
