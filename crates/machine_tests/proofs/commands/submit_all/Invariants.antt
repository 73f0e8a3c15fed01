use Rattle.std.proofs.Common.{◌≡◌}
use Rattle.machine_tests.proofs.commands.submit_all.Given as goal

abbrev pub invariant-loop : goal.invariant-loop
invariant-loop g l = (l.client.queue ≡ l.conductor) × (l.client.queue ≡ l.fn.client.queue) × (l.client.number ≡ l.fn.client.number)
