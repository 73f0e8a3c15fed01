use Rattle.std.proofs.Common.{sym, ap, subst}
use Rattle.image_rule.specs.declared.view.Frame.{Frame}
use Rattle.image_rule.specs.declared.view.View.{View}
use Rattle.image_rule.specs.Steps.{Commits, MayCommit, MayStore}
use Rattle.std.specs.Prelude.{bit_or}
use Rattle.image.specs.Drafted.{drafted}
use Rattle.image.proofs.Storings.{commit_on, first_store, first_stored}
use Rattle.image.proofs.inserter.storing.set_first_as.Goals as goal

pub commit_as-requires-clause-may : goal.commit_as-requires-clause-may
commit_as-requires-clause-may g c =
    let i = c.args.image.now in let h = c.args.hand.now in let f : Frame = drafted c.args.draft.now in let v : View = h.seat.me.0 in let w : View = c.fetch_as-old.new.hand.seat.me.0 in let told = c.fetch_as-old.ensures.told in
    subst (λ (x : Frame). MayStore i.key w.held x c.args.place (bit_or c.fetch_as-old.result c.mask.result)) (sym c.requires.chosen.2)
    (first_store i.key i.is_key v w f h.inserts c.requires.may c.requires.marked c.args.place c.min-count.result c.fetch_as-old.result c.mask.result c.requires.there c.min-count.ensures told.0 told.1 c.mask.ensures)

pub commit_as-requires-clause-parts : goal.commit_as-requires-clause-parts
commit_as-requires-clause-parts g c =
    let h = c.args.hand.now in let n = g.N.Picked in let told = c.fetch_as-old.ensures.told in
    commit_on n.site n.frame h.seat.me c.fetch_as-old.new.hand.seat.me (ap (λ (x : View). x.held.out) told.1) c.fetch_as-old.ensures.slots (subst (λ (x : Frame). MayCommit n.site x h.seat.me) (sym c.requires.chosen.2) c.requires.parts)

pub returns-clause-stored : goal.returns-clause-stored
returns-clause-stored g c =
    let i = c.args.image.now in let h = c.args.hand.now in let f : Frame = drafted c.args.draft.now in let v : View = h.seat.me.0 in let w : View = c.fetch_as-old.new.hand.seat.me.0 in let told = c.fetch_as-old.ensures.told in
    first_stored i.key i.is_key v w f h.inserts c.requires.may c.requires.marked c.args.place c.min-count.result c.fetch_as-old.result c.mask.result c.requires.there c.min-count.ensures told.0 told.1 c.mask.ensures
    c.fetch_as-old.new.hand.seat.me.1 g.N.Picked.place c.commit_as.new.hand.seat.me c.requires.chosen.1
    (subst (λ (x : Frame). Commits g.N.Picked.place x c.fetch_as-old.new.hand.seat.me (bit_or c.fetch_as-old.result c.mask.result) c.commit_as.new.hand.seat.me) c.requires.chosen.2 c.commit_as.ensures.told)
