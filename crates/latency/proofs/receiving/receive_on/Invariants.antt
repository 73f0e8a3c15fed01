use Rattle.std.proofs.Common.{◌≡◌, None}
use Rattle.latency.proofs.receiving.receive_on.Given as goal

abbrev pub invariant-loop : goal.invariant-loop
invariant-loop g l = l.reception.fault ≡ None
