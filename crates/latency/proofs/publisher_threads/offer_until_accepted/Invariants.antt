use Rattle.std.proofs.Common.{◌≡◌}
use Rattle.shared_log.specs.Books.{IsDone}
use Rattle.latency.proofs.publisher_threads.offer_until_accepted.Given as goal

abbrev pub invariant-loop : goal.invariant-loop
invariant-loop g l = (l.words ≡ l.initial.words) × IsDone l.words l.publisher
