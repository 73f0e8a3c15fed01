use Rattle.std.proofs.Common.{◌≡◌, length}
use Rattle.shared_log.specs.Books.{IsDone}
use Rattle.latency.proofs.publisher_threads.offer_all.Given as goal

abbrev pub invariant-loop-number : goal.invariant-loop-number
invariant-loop-number g l = (l.words ≡ l.offers.log.now) × IsDone l.offers.log.now l.publisher × (length l.message ≡ length l.initial.message)
