use Rattle.model.proofs.ARun.{it_runs}
use Rattle.model.proofs.Opens.{opens_always}
use Rattle.model.proofs.a_run.Goals as goal

pub returns-clause-runs : goal.returns-clause-runs
returns-clause-runs c = it_runs

pub returns-clause-opens : goal.returns-clause-opens
returns-clause-opens c = opens_always
