use Rattle.model.proofs.StepsKept.{are_reached, flow_limit_never_falls, have_passed, keeps_naks}
use Rattle.model.proofs.steps_keep.Goals as goal

pub returns-clause-naks : goal.returns-clause-naks
returns-clause-naks c = keeps_naks

pub returns-clause-reached : goal.returns-clause-reached
returns-clause-reached c = are_reached

pub returns-clause-passed : goal.returns-clause-passed
returns-clause-passed c = have_passed

pub returns-clause-flow : goal.returns-clause-flow
returns-clause-flow c = flow_limit_never_falls
