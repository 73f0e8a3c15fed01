use Rattle.std.proofs.Common.{arith}
use Rattle.subscriber.proofs.Choices.{oldest_at, oldest_passed, oldest_taken}
use Rattle.subscriber.proofs.subscription.offers.oldest_unheard.Goals as goal
use Rattle.subscriber.proofs.subscription.offers.oldest_unheard.Goals.{then-is_unheard+then-is_by, else-is_unheard, else-is_unheard-via-then-is_unheard+else-is_by, else-is_unheard-via-else-is_unheard}

pub loop-place-init : goal.loop-place-init
loop-place-init c = λ k d low high. absurd (omega (arith, low, high))

pub loop-place-preserved : goal.loop-place-preserved
loop-place-preserved c =
    let xs = c.args.sessions.now in
    let i = c.loop-place.place in
    let s = c.index-sessions-place.result in
    let passed = oldest_passed xs i c.loop-place.oldest c.loop-place.opened s c.loop-place-test.true c.index-sessions-place.is in
    elim c.if-is_unheard.branch [
      | then-is_unheard+then-is_by w ↦
          rw (w.oldest-is, w.opened-is) (oldest_taken xs i c.loop-place.oldest c.loop-place.opened s c.loop-place-test.true c.index-sessions-place.is (c.is_unheard.ensures.unheard.0 w.if-is_unheard.true) (w.is_by.ensures.0 w.if-is_by.true) c.loop-place.invariant)
      | else-is_unheard w ↦
          rw (w.oldest-is, w.opened-is) (elim w.else-is_unheard.branch [
            | else-is_unheard-via-then-is_unheard+else-is_by v ↦ passed (λ u by. let so = v.is_by.ensures.1 by in let not = v.if-is_by.false in cc) c.loop-place.invariant
            | else-is_unheard-via-else-is_unheard v ↦ passed (λ u by. let so = c.is_unheard.ensures.unheard.1 u in let not = v.if-is_unheard.false in cc) c.loop-place.invariant
          ])
    ]

pub returns : goal.returns
returns c = oldest_at c.args.sessions.now c.loop-place.place c.loop-place.oldest c.loop-place.opened c.loop-place-test.false c.requires c.loop-place.invariant
