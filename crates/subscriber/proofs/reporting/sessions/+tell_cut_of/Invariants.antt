use Rattle.std.proofs.Common.{length}
use Rattle.subscriber.proofs.reporting.sessions.+tell_cut_of.Given as goal

abbrev pub decreases-tell_cut_of : goal.decreases-tell_cut_of
decreases-tell_cut_of g l = length l.sessions.now
