use Rattle.std.proofs.Common.{◌∙◌, ◌<◌, ◌≤◌, ℕ, length, arith, subst, sym}
use Rattle.std.proofs.lemmas.Result.{err_from_is_err_and}
use Rattle.subscriber.specs.Places.{most_places}
use Rattle.subscriber.specs.Sessions.{HasLooked, IsSized}
use Rattle.subscriber.proofs.Along.{all_along, more_along, with_place}
use Rattle.subscriber.proofs.Each.{all_at}
use Rattle.subscriber.proofs.Faults.{any_at}
use Rattle.subscriber.proofs.Turned.{broken_on, looked_on}
use Rattle.subscriber.proofs.subscription.Subscription.look_at_each.Goals as goal

pub look-requires-clause-size : goal.look-requires-clause-size
look-requires-clause-size g c =
    let l = c.loop-session in
    let same = l.auto.sessions in
    all_at IsSized l.sessions l.session-index _ (omega (arith, same, c.loop-session-test.true)) l.invariant.size

pub loop-session-preserved : goal.loop-session-preserved
loop-session-preserved g c =
    let l = c.loop-session in
    let same = l.auto.sessions in
    let low : l.session-index < length l.sessions = omega (arith, same, c.loop-session-test.true) in
    record {
      size = with_place IsSized l.sessions l.session-index _ l.invariant.size c.look.ensures.size;
      few = c.in_ok-more.ensures.few;
      looked = more_along HasLooked l.session-index c.args.sessions.now l.sessions c.session-item.result _ l.invariant.looked low c.in_ok-more.ensures.looked;
      lives = λ a follows. looked_on c.args.self.now.plan a _ _ _ _ l.session-index l.sessions c.session-item.result _ low (l.invariant.lives a follows) c.in_ok-more.ensures.lives c.look.ensures.images;
      moment = c.look.ensures.moment ∙ l.invariant.moment;
    }

pub returns-clause-looked : goal.returns-clause-looked
returns-clause-looked g c =
    let l = c.loop-session in
    let same = l.auto.sessions in
    let end : length l.sessions ≤ l.session-index = omega (arith, same, c.loop-session-test.false) in
    all_along HasLooked l.session-index c.args.sessions.now l.sessions l.invariant.looked end

pub returns-in_err-more-clause-broken : goal.returns-in_err-more-clause-broken
returns-in_err-more-clause-broken g c =
    let l = c.loop-session in
    let same = l.auto.sessions in
    let low : l.session-index < length l.sessions = omega (arith, same, c.loop-session-test.true) in
    let p = err_from_is_err_and c.from_residual.result c.from_residual.ensures.1 in
    rw p.1 (λ a few follows. broken_on c.args.self.now.plan a _ _ _ l.session-index l.sessions c.session-item.result _ low (subst (λ (n : ℕ). n ≤ most_places c.args.self.now.plan) (sym same) few) (l.invariant.lives a follows) c.in_err-more.ensures.broken)

pub returns-in_err-more-clause-caused : goal.returns-in_err-more-clause-caused
returns-in_err-more-clause-caused g c =
    let l = c.loop-session in
    let same = l.auto.sessions in
    let low : l.session-index < length l.sessions = omega (arith, same, c.loop-session-test.true) in
    let p = err_from_is_err_and c.from_residual.result c.from_residual.ensures.1 in
    rw (p.1, p.2) (any_at _ l.sessions l.session-index c.look.new.session low c.in_err-more.ensures.caused)
