use Rattle.std.proofs.Common.{vec_len}
use Rattle.std.specs.List.{AllByRecursion}
use Rattle.shared_log.specs.Books.{IsDone}
use Rattle.latency.proofs.publisher_threads.start_publishers.Given as goal

abbrev pub invariant-loop-publisher : goal.invariant-loop-publisher
invariant-loop-publisher g l = AllByRecursion (IsDone l.offers.log.now) l.waiting.items

abbrev pub decreases-loop-publisher : goal.decreases-loop-publisher
decreases-loop-publisher g l = vec_len l.waiting
