use Rattle.threads_meaning.proofs.Opening.{opens_as_model}
use Rattle.threads_meaning.proofs.law.opens_as_model.Goals as goal

pub returns : goal.returns
returns c = opens_as_model
