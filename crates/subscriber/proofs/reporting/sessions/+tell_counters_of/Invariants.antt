use Rattle.std.proofs.Common.{length}
use Rattle.subscriber.proofs.reporting.sessions.+tell_counters_of.Given as goal

abbrev pub decreases-tell_counters_of : goal.decreases-tell_counters_of
decreases-tell_counters_of g l = length l.sessions.now
