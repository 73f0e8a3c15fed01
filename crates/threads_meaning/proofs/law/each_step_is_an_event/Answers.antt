use Rattle.threads_meaning.proofs.Running.{each_step_is_an_event}
use Rattle.threads_meaning.proofs.law.each_step_is_an_event.Goals as goal

pub returns : goal.returns
returns c = each_step_is_an_event
