use Rattle.std.proofs.Common.{◌∙◌, ◌<◌, get_or, length, None, Some, ap, inl, inr, refl, rules}
use Rattle.std.proofs.lemmas.Iterator.{IsFirst-from_position, YieldsList-from_slice}
use borrow.Author.Tests.{tests}
use Rattle.subscriber.specs.Hearings.{Routed, with_routed}
use Rattle.subscriber.specs.Offers.{SubscriberDevice}
use Rattle.subscriber.specs.Receivings.{Receiving}
use Rattle.subscriber.proofs.Reading.{IsNot, Its, all_routed_still, goes_to, place_is, routed_at, routes_came}
use Rattle.subscriber.proofs.listening.reception.Reception.route.Goals as goal

pub returns-in_default-clause-kept : goal.returns-in_default-clause-kept
returns-in_default-clause-kept c = all_routed_still c.args.sessions.now

pub returns-in_default-its-clause-routes : goal.returns-in_default-its-clause-routes
returns-in_default-its-clause-routes c =
    let from = c.in-Some.from in
    let first = c.first_frame-first.result in
    let all = c.args.sessions.now in
    routes_came c.args.self.now.socket.came from c.in-Some.datagram.now _ _ (c.in-Some.ensures ∙ ap (λ (s : Receiving). s.socket.came) c.self.view_is)
    (record { first = first; tells = c.first_frame-first.ensures; goes = inr ((place_is from first all None (IsFirst-from_position _ _ _ (Its from first) (IsNot from first) c.in_default-its.ensures.ran (YieldsList-from_slice all c.iter.ensures.rest) (λ x q k. search (rules, tests)) (λ x q k. search (rules, tests)))).2, search rules) })

pub returns-in_default-its-clause-kept : goal.returns-in_default-its-clause-kept
returns-in_default-its-clause-kept c = all_routed_still c.args.sessions.now

pub returns-in_err-routed-clause-kept : goal.returns-in_err-routed-clause-kept
returns-in_err-routed-clause-kept c = all_routed_still c.args.sessions.now

pub returns-in_err-route-clause-kept : goal.returns-in_err-route-clause-kept
returns-in_err-route-clause-kept c =
    let low : c.in-Some-its.place < length c.args.sessions.now = search rules in
    routed_at c.args.sessions.now c.in-Some-its.place c.index-sessions-place.result c.route.new.self low

pub returns-clause-routes : goal.returns-clause-routes
returns-clause-routes c =
    let from = c.in-Some.from in
    let first = c.first_frame-first.result in
    let bytes = c.in-Some.datagram.now in
    let all = c.args.sessions.now in
    let place = c.in-Some-its.place in
    let routed : Routed = record { first = first; bytes = bytes } in
    routes_came c.args.self.now.socket.came from bytes _ _ (c.in-Some.ensures ∙ ap (λ (s : Receiving). s.socket.came) c.self.view_is)
    (record {
      first = first;
      tells = c.first_frame-first.ensures;
      goes = inl
          (record {
            goes = goes_to from routed all place c.index-sessions-place.result c.route.new.self (place_is from first all (Some place) (IsFirst-from_position _ _ _ (Its from first) (IsNot from first) c.in-Some-its.ensures.ran (YieldsList-from_slice all c.iter.ensures.rest) (λ x q k. search (rules, tests)) (λ x q k. search (rules, tests)))).0
                (c.in_ok-route.ensures.routed ∙ ap (λ (d : SubscriberDevice). with_routed d c.in_ok-routed.routed) c.device_mut.ensures.value ∙ ap (λ (r : Routed). with_routed (get_or all place c.index-sessions-place.result).duty.device r) c.in_ok-routed.ensures);
            same = refl;
          });
    })

pub returns-clause-kept : goal.returns-clause-kept
returns-clause-kept c =
    let low : c.in-Some-its.place < length c.args.sessions.now = search rules in
    routed_at c.args.sessions.now c.in-Some-its.place c.index-sessions-place.result c.route.new.self low
