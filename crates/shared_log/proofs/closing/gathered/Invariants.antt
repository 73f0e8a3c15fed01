use Rattle.std.proofs.Common.{◌≡◌, vec_len}
use Rattle.shared_log.proofs.Gathered.{IsGathering}
use Rattle.shared_log.proofs.closing.gathered.Given as goal

abbrev pub invariant-loop-publisher : goal.invariant-loop-publisher
invariant-loop-publisher l = (l.log ≡ l.fn.log) × (l.start ≡ l.fn.log.start) × IsGathering l.fn.log l.fn.keeper.held.pass.reading l.fn.publishers.items l.publishers.items l.shares l.tail l.keeper.held

abbrev pub decreases-loop-publisher : goal.decreases-loop-publisher
decreases-loop-publisher l = vec_len l.publishers
