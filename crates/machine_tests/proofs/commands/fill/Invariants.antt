use Rattle.std.proofs.Common.{◌≡◌, ◌≤◌}
use Rattle.machine_tests.proofs.commands.fill.Given as goal

abbrev pub invariant-loop-turn : goal.invariant-loop-turn
invariant-loop-turn g l = (l.client.queue ≡ l.conductor) × (l.client.queue ≡ l.fn.client.queue) × (l.client.number ≡ l.fn.client.number) × (l.refused ≤ l._turn)
