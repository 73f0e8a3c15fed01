use Rattle.std.proofs.Common.{sym}
use Rattle.conductor.proofs.Moves.{submits, last}
use Rattle.conductor.proofs.queue.Conductor.submit.Goals as goal

pub push_as-requires-clause-rule : goal.push_as-requires-clause-rule
push_as-requires-clause-rule g c = (submits _ _ _ _ c.client.invariant.1 (sym c.client.invariant.2), last _ _ c.client.invariant.1)
