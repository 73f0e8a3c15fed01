use Rattle.std.proofs.Common.{◌≡◌, ℕ, ◌<◌, ◌≤◌, List, [], ◌++◌, true, length}
use Rattle.crossbeam_queue.specs.Passes.{view}
use Rattle.conductor.specs.Commands.{of}
use Rattle.conductor.specs.Parties.{ClientSeen, accepted_of}
use Rattle.conductor.proofs.queue.finish.Given as goal

abbrev pub invariant-loop-client : goal.invariant-loop-client
invariant-loop-client g l = record {
  front : (gone : List ClientSeen) × (l.fn.clients.items ≡ l.clients.items ++ gone);
  queue : l.seat.table_id ≡ l.fn.conductor;
  slots : l.seat.me.1 ≡ [];
  takes : (view l.seat).takes ≡ true;
  left : (view l.seat).left ≡ length l.clients.items;
  taken : (view l.seat).taken ≡ l.fn.taker.taken;
  ended : (p : ℕ) → length l.clients.items ≤ p → of p (view l.seat).known ≡ accepted_of l.fn.clients.items p;
  unknown : (p : ℕ) → p < length l.clients.items → of p (view l.seat).known ≡ [];
}

abbrev pub decreases-loop-client : goal.decreases-loop-client
decreases-loop-client g l = length l.clients.items
