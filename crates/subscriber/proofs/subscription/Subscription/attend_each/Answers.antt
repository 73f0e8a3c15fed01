use Rattle.std.proofs.Common.{◌∙◌, ◌<◌, ◌≡◌, ◌+◌, ℕ, get_or, length, max, min, ap, arith, subst}
use Rattle.std.specs.Prelude.{if◌then◌else◌}
use Rattle.subscriber.proofs.Each.{rest_more, zip_more, zip_whole}
use Rattle.subscriber.specs.Sessions.{share_of}
use Rattle.subscriber.specs.Turning.{AttendsOwn}
use Rattle.subscriber.proofs.subscription.Subscription.attend_each.Goals as goal

pub loop-session-preserved : goal.loop-session-preserved
loop-session-preserved g c =
    let i = c.loop-session.session-index in
    let xs = c.loop-session.sessions in
    let ys = c.args.sessions.now in
    let same = c.loop-session.auto.sessions in
    let lx : i < length xs = omega (arith, same, c.loop-session-test.true) in
    let ly : i < length ys = omega (arith, same, c.loop-session-test.true) in
    let w = c.session-item.result in
    let x = c.attend_own.new.session in
    let plan = c.args.self.now.plan in
    let share : c.share_among-share.result ≡ share_of ys (get_or xs i w) = c.share_among-share.ensures ∙ ap (λ (n : ℕ). max 1 (min (length ys) (if (get_or xs i w).ended then n + 1 else n))) c.open_count-open.ensures in
    record {
      done = zip_more (λ j k. AttendsOwn plan (share_of ys j) j k) xs ys i x w lx ly c.loop-session.invariant.rest c.loop-session.invariant.done
          (subst (λ (n : ℕ). AttendsOwn plan n (get_or xs i w) x) share c.in_ok-attend_own.ensures.attends);
      rest = rest_more xs ys i x w lx ly c.loop-session.invariant.rest;
    }

pub returns : goal.returns
returns g c =
    let same = c.loop-session.auto.sessions in
    let end = c.loop-session-test.false in
    record { refused = tt; attends = zip_whole (λ j k. AttendsOwn c.args.self.now.plan (share_of c.args.sessions.now j) j k) c.loop-session.sessions c.args.sessions.now c.loop-session.session-index (omega (arith, same, end)) (omega (arith, end)) c.loop-session.invariant.done }
