use Rattle.threads_meaning.proofs.Running.{steps_are_a_run}
use Rattle.threads_meaning.proofs.law.steps_are_a_run.Goals as goal

pub returns : goal.returns
returns c = steps_are_a_run
