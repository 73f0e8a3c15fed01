use Rattle.std.proofs.Common.{length}
use Rattle.subscriber.proofs.reporting.sessions.+tell_refused_of.Given as goal

abbrev pub decreases-tell_refused_of : goal.decreases-tell_refused_of
decreases-tell_refused_of g l = length l.sessions.now
