use Rattle.log_memory.proofs.Kept.{steps_keep}
use Rattle.log_memory.proofs.law.steps_keep.Goals as goal

pub returns : goal.returns
returns c = steps_keep
