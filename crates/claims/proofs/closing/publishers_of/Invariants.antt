use Rattle.std.proofs.Common.{◌≡◌, ◌≤◌, All, length, vec_capacity, vec_len, ◌+◌, ◌++◌}
use Rattle.shared_log.specs.Books.{IsDone}
use Rattle.shared_log.specs.Steps.Handles.{IsOf}
use Rattle.claims.proofs.closing.publishers_of.Given as goal

abbrev pub invariant-loop-claimant : goal.invariant-loop-claimant
invariant-loop-claimant l = record {
  same : l.publishers.items ++ l.claimant-iterator.rest.items ≡ l.fn.claimants.items;
  done : All (IsDone l.log) l.publishers.items;
  of : All (IsOf l.log) l.claimant-iterator.rest.items;
  room : vec_len l.publishers + length l.claimant-iterator.rest.items ≤ vec_capacity l.publishers;
}
