use Rattle.std.proofs.Common.{◌∙◌, ◌<◌, ◌≤◌, length, ap, arith, refl}
use Rattle.subscriber.specs.Sessions.{HasLeft, IsSized}
use Rattle.subscriber.specs.declared.images.session.Session.{Session}
use Rattle.subscriber.proofs.Along.{all_along, more_along, one_on, with_place}
use Rattle.subscriber.proofs.Each.{all_at}
use Rattle.subscriber.proofs.Farewells.{ToldAt, all_left_still, has_left, left_on}
use Rattle.subscriber.proofs.images.sessions.tell_places.Goals as goal

pub loop-session-init : goal.loop-session-init
loop-session-init c = record { size = c.requires; left = all_left_still c.args.sessions.now; told = refl }

pub tell_place-requires : goal.tell_place-requires
tell_place-requires c =
    let l = c.loop-session in
    let same = l.auto.sessions in
    let low : l.session-index < length l.sessions = omega (arith, same, c.loop-session-test.true) in
    all_at IsSized l.sessions l.session-index c.session-item.result low l.invariant.size

pub returns-in_err-busy-clause-size : goal.returns-in_err-busy-clause-size
returns-in_err-busy-clause-size c =
    let l = c.loop-session in
    let same = l.auto.sessions in
    let low : l.session-index < length l.sessions = omega (arith, same, c.loop-session-test.true) in
    with_place IsSized l.sessions l.session-index c.tell_place.new.self l.invariant.size (c.tell_place.ensures.size ∙ all_at IsSized l.sessions l.session-index c.session-item.result low l.invariant.size)

pub returns-in_err-busy-clause-left : goal.returns-in_err-busy-clause-left
returns-in_err-busy-clause-left c =
    let l = c.loop-session in
    let same = l.auto.sessions in
    let low : l.session-index < length l.sessions = omega (arith, same, c.loop-session-test.true) in
    one_on HasLeft left_on c.args.sessions.now l.sessions l.session-index c.session-item.result c.tell_place.new.self l.invariant.left low
    (has_left _ _ c.tell_place.ensures.unpolled (ap (λ (j : Session). j.images) c.tell_place.ensures.same))

pub loop-session-preserved : goal.loop-session-preserved
loop-session-preserved c =
    let l = c.loop-session in
    let same = l.auto.sessions in
    let low : l.session-index < length l.sessions = omega (arith, same, c.loop-session-test.true) in
    record {
      size = with_place IsSized l.sessions l.session-index c.tell_place.new.self l.invariant.size (c.tell_place.ensures.size ∙ all_at IsSized l.sessions l.session-index c.session-item.result low l.invariant.size);
      left = one_on HasLeft left_on c.args.sessions.now l.sessions l.session-index c.session-item.result c.tell_place.new.self l.invariant.left low
          (has_left _ _ c.tell_place.ensures.unpolled (ap (λ (j : Session). j.images) c.tell_place.ensures.same));
      told = more_along (ToldAt c.args.now) l.session-index c.args.sessions.now l.sessions c.session-item.result c.tell_place.new.self l.invariant.told low c.in_ok-busy.ensures.told;
    }

pub returns-clause-told : goal.returns-clause-told
returns-clause-told c =
    let l = c.loop-session in
    let same = l.auto.sessions in
    let end : length l.sessions ≤ l.session-index = omega (arith, same, c.loop-session-test.false) in
    all_along (ToldAt c.args.now) l.session-index c.args.sessions.now l.sessions l.invariant.told end
