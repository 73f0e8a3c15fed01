use Rattle.theory.proofs.Held.{answer_held, reaches_without}
use Rattle.theory.proofs.forgets_below.Goals as goal

pub returns-clause-answers : goal.returns-clause-answers
returns-clause-answers c = answer_held

pub returns-clause-reaches : goal.returns-clause-reaches
returns-clause-reaches c = reaches_without
