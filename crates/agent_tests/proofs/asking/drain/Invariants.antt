use Rattle.std.proofs.Common.{◌≡◌}
use Rattle.agent_tests.proofs.asking.drain.Given as goal

abbrev pub invariant-loop-count : goal.invariant-loop-count
invariant-loop-count g l = l.taker.queue ≡ l.initial.taker.queue
