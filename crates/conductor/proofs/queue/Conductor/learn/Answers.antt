use Rattle.conductor.proofs.Moves.{tells, hears}
use Rattle.conductor.proofs.queue.Conductor.learn.Goals as goal

pub another-report-requires-clause-rule : goal.another-report-requires-clause-rule
another-report-requires-clause-rule c = tells _ _

pub absorb-requires-clause-rule : goal.absorb-requires-clause-rule
absorb-requires-clause-rule c = hears _ _ _ _
