use Rattle.std.proofs.Common.{◌≡◌}
use Rattle.agent_tests.specs.Senders.{IsSender}
use Rattle.agent_tests.proofs.asking.four_turns.Given as goal

abbrev pub invariant-loop-asks : goal.invariant-loop-asks
invariant-loop-asks g l = IsSender l.agent.core × (l.client.queue ≡ l.conductor) × (l.taker.queue ≡ l.conductor)
