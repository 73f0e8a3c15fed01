use Rattle.threads_meaning.proofs.Happening.{it_happens}
use Rattle.threads_meaning.proofs.law.there_are_steps.Goals as goal

pub returns : goal.returns
returns c = it_happens
