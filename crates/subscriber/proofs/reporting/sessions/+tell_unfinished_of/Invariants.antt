use Rattle.std.proofs.Common.{length}
use Rattle.subscriber.proofs.reporting.sessions.+tell_unfinished_of.Given as goal

abbrev pub decreases-tell_unfinished_of : goal.decreases-tell_unfinished_of
decreases-tell_unfinished_of g l = length l.sessions.now
