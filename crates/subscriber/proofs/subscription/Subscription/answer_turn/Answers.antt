use Rattle.std.proofs.Common.{◌≡◌, ◌∙◌, ◌≤◌, ℕ, List, map, length, ap, subst, sym}
use Rattle.std.proofs.lemmas.List.{length-map}
use Rattle.subscriber.proofs.Apart.{answered_apart}
use Rattle.subscriber.proofs.Called.{called_length}
use Rattle.subscriber.proofs.Rounds.{turn_answered}
use Rattle.subscriber.proofs.Seated.{written_whole}
use Rattle.subscriber.specs.Places.{most_places}
use Rattle.subscriber.specs.Sessions.{news_told}
use Rattle.subscriber.specs.declared.images.session.Session.{Session}
use Rattle.subscriber.proofs.subscription.Subscription.answer_turn.Goals as goal

pub returns-clause-answers : goal.returns-clause-answers
returns-clause-answers g c =
    let list = c.ask_caller.new.sessions.list in
    let asked = ap (λ l. l.items) c.ask_each.ensures.same in
    let told : c.tell_news.new.sessions ≡ map news_told list.items = c.tell_news.ensures ∙ ap (map news_told) c.as_mut_slice.ensures.value in
    let last = written_whole list.items c.tell_news.new.sessions list.len list.ok.0 (ap length told ∙ length-map list.items news_told) in
    turn_answered c.args.self.now.plan c.args.now c.args.sessions.now.list.items c.ask_each.new.sessions.list.items c.attend.new.sessions.list.items list.items _ c.args.sessions.now.reception
    c.ask_each.new.sessions.reception c.attend.new.sessions.reception c.ask_caller.new.sessions.reception asked c.ask_each.ensures.asks c.ask_each.ensures.left c.in_ok-attend.ensures.attends
    c.in_ok-attend.ensures.left
    c.ask_caller.ensures.asks
    c.ask_caller.ensures.left (last ∙ told)

pub returns-clause-apart : goal.returns-clause-apart
returns-clause-apart g c = answered_apart _ _ _ _ _ _ (returns-clause-answers g c) c.requires.apart

pub returns-clause-few : goal.returns-clause-few
returns-clause-few g c =
    let plan = c.args.self.now.plan in
    let list = c.ask_caller.new.sessions.list in
    let told : c.tell_news.new.sessions ≡ map news_told list.items = c.tell_news.ensures ∙ ap (map news_told) c.as_mut_slice.ensures.value in
    let long = ap length told ∙ length-map list.items news_told in
    let last = written_whole list.items c.tell_news.new.sessions list.len list.ok.0 long in
    let called = called_length plan _ _ _ _ _ c.ask_caller.ensures.asks in
    subst (λ (zs : List Session). length zs ≤ most_places plan) (sym last) (subst (λ (n : ℕ). n ≤ most_places plan) (sym (long ∙ called)) c.in_ok-attend.ensures.few)
