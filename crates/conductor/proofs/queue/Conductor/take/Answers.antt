use Rattle.conductor.proofs.Moves.{takes, there}
use Rattle.conductor.proofs.queue.Conductor.take.Goals as goal

pub pop_as-requires-clause-rule : goal.pop_as-requires-clause-rule
pop_as-requires-clause-rule g c = (takes _ _ c.taker.invariant.1, there _ _ c.taker.invariant.1)
