use Rattle.theory.proofs.Naks.{takes_exactly}
use Rattle.theory.proofs.takes_exactly.Goals as goal

pub returns : goal.returns
returns c = takes_exactly
