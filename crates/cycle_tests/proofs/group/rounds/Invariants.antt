use Rattle.agent_tests.specs.Senders.{IsSender}
use Rattle.cycle_tests.proofs.group.rounds.Given as goal

abbrev pub invariant-loop-number : goal.invariant-loop-number
invariant-loop-number l = IsSender l.sender
