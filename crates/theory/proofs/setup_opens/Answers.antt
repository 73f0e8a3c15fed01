use Rattle.theory.proofs.Openings.{one_fault, setup_opens}
use Rattle.theory.proofs.setup_opens.Goals as goal

pub returns-clause-opens : goal.returns-clause-opens
returns-clause-opens c = setup_opens

pub returns-clause-fault : goal.returns-clause-fault
returns-clause-fault c = one_fault
