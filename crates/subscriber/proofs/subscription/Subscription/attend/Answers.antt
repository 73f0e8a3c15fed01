use Rattle.std.proofs.Common.{◌∙◌, List, ap, length, None, Some, inl, inr, subst, sym}
use Rattle.std.proofs.lemmas.Result.{on_ok_weaker}
use Rattle.subscriber.proofs.Apart.{attended_apart, own_apart}
use Rattle.subscriber.proofs.Each.{zip_length}
use Rattle.subscriber.proofs.Seated.{attended, written_whole}
use Rattle.subscriber.specs.Apart.{AreApart}
use Rattle.subscriber.specs.Choosing.{IsPlaced}
use Rattle.subscriber.specs.Sessions.{share_of}
use Rattle.subscriber.specs.Turning.{AttendsOwn}
use Rattle.subscriber.specs.declared.images.session.Session.{Session}
use Rattle.subscriber.proofs.subscription.Subscription.attend.Goals as goal

pub returns-in_default-clause-attends : goal.returns-in_default-clause-attends
returns-in_default-clause-attends g c =
    attended c.args.self.now.plan c.args.now c.args.sessions.now.list.len c.args.sessions.now.reception.offer None c.args.sessions.now.list.items c.as_mut_slice.result.now c.attend_each.new.sessions _
    c.args.sessions.now.list.ok.0 c.as_mut_slice.ensures.value c.in_ok-attend_each.ensures.attends (sym c.take_offer.ensures.taken ∙ c.in_default.is) (λ whole. whole)

pub returns-in-None-clause-attends : goal.returns-in-None-clause-attends
returns-in-None-clause-attends g c =
    attended c.args.self.now.plan c.args.now c.args.sessions.now.list.len c.args.sessions.now.reception.offer (Some (c.in-Some.from, c.in-Some.setup)) c.args.sessions.now.list.items c.as_mut_slice.result.now c.attend_each.new.sessions _
    c.args.sessions.now.list.ok.0 c.as_mut_slice.ensures.value c.in_ok-attend_each.ensures.attends (sym c.take_offer.ensures.taken ∙ c.in-Some.is) (λ whole. inl (c.in-None.ensures.none, whole))

pub returns-in-Some-meeting_of-clause-attends : goal.returns-in-Some-meeting_of-clause-attends
returns-in-Some-meeting_of-clause-attends g c =
    let plan = c.args.self.now.plan in
    let m = c.in-Some-meeting_of.meeting in
    let new = c.place_offer.new.sessions.list.items in
    on_ok_weaker c.place_offer.result (λ placed.
    attended plan c.args.now c.args.sessions.now.list.len c.args.sessions.now.reception.offer (Some (c.in-Some.from, c.in-Some.setup)) c.args.sessions.now.list.items c.as_mut_slice.result.now c.attend_each.new.sessions new
    c.args.sessions.now.list.ok.0 c.as_mut_slice.ensures.value c.in_ok-attend_each.ensures.attends (sym c.take_offer.ensures.taken ∙ c.in-Some.is)
    (λ whole. inr (m, c.in-Some-meeting_of.ensures.found, subst (λ (zs : List Session). IsPlaced plan m c.args.now zs new) whole placed)))
    c.place_offer.ensures.placed

pub returns-in_default-clause-apart : goal.returns-in_default-clause-apart
returns-in_default-clause-apart g c = attended_apart _ _ _ _ _ (returns-in_default-clause-attends g c) c.requires.apart

pub returns-in-None-clause-apart : goal.returns-in-None-clause-apart
returns-in-None-clause-apart g c = attended_apart _ _ _ _ _ (returns-in-None-clause-attends g c) c.requires.apart

pub place_offer-requires-clause-apart : goal.place_offer-requires-clause-apart
place_offer-requires-clause-apart g c =
    let plan = c.args.self.now.plan in
    let value = c.as_mut_slice.ensures.value in
    let own = c.in_ok-attend_each.ensures.attends in
    let long = zip_length (λ (j k : Session). AttendsOwn plan (share_of c.as_mut_slice.result.now j) j k) c.as_mut_slice.result.now c.attend_each.new.sessions own ∙ ap length value in
    let whole = written_whole c.args.sessions.now.list.items c.attend_each.new.sessions c.args.sessions.now.list.len c.args.sessions.now.list.ok.0 long in
    subst AreApart (sym whole) (own_apart plan c.as_mut_slice.result.now c.attend_each.new.sessions own (subst AreApart (sym value) c.requires.apart))
