use Rattle.std.proofs.Common.{◌≡◌}
use Rattle.machine_tests.proofs.commands.take_all.Given as goal

abbrev pub invariant-loop : goal.invariant-loop
invariant-loop g l = (l.taker.queue ≡ l.conductor) × (l.taker.queue ≡ l.fn.taker.queue)
