use Rattle.std.proofs.Common.{length}
use Rattle.subscriber.proofs.reporting.sessions.+naks_of.Given as goal

abbrev pub decreases-naks_of : goal.decreases-naks_of
decreases-naks_of l = length l.sessions.now
