use Rattle.subscriber.proofs.Choices.{OldestSoFar}
use Rattle.subscriber.proofs.subscription.offers.oldest_unheard.Given as goal

abbrev pub invariant-loop-place : goal.invariant-loop-place
invariant-loop-place l = OldestSoFar l.sessions l.place l.oldest l.opened
