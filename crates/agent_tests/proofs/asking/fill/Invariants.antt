use Rattle.std.proofs.Common.{◌≡◌}
use Rattle.agent_tests.proofs.asking.fill.Given as goal

abbrev pub invariant-loop-count : goal.invariant-loop-count
invariant-loop-count g l = l.client.queue ≡ l.initial.client.queue
