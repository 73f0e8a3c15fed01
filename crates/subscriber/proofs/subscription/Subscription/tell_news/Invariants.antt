use Rattle.std.proofs.Common.{◌≡◌}
use Rattle.subscriber.specs.Sessions.{news_told}
use Rattle.subscriber.specs.declared.images.session.Session.{Session}
use Rattle.subscriber.proofs.Along.{Along}
use Rattle.subscriber.proofs.subscription.Subscription.tell_news.Given as goal

abbrev pub invariant-loop-place : goal.invariant-loop-place
invariant-loop-place g l = Along (λ (j k : Session). k ≡ news_told j) l.place l.fn.sessions l.sessions
