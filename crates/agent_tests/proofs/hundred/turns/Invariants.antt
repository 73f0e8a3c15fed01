use Rattle.std.proofs.Common.{◌≡◌}
use Rattle.agent_tests.specs.Senders.{IsSender}
use Rattle.agent_tests.proofs.hundred.turns.Given as goal

abbrev pub invariant-loop-round : goal.invariant-loop-round
invariant-loop-round g l = IsSender l.agent.core × (l.client.queue ≡ l.conductor)
