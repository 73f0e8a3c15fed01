use Rattle.std.proofs.Common.{length}
use Rattle.subscriber.proofs.subscription.Subscription.+ask_all.Given as goal

abbrev pub decreases-ask_all : goal.decreases-ask_all
decreases-ask_all l = length l.sessions.now
