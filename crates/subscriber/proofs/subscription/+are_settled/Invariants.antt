use Rattle.std.proofs.Common.{length}
use Rattle.subscriber.proofs.subscription.+are_settled.Given as goal

abbrev pub decreases-are_settled : goal.decreases-are_settled
decreases-are_settled l = length l.sessions.now
