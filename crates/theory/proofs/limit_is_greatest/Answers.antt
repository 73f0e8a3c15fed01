use Rattle.theory.proofs.Groups.{group_within}
use Rattle.theory.proofs.Limits.{limit_is_greatest}
use Rattle.theory.proofs.limit_is_greatest.Goals as goal

pub returns-clause-greatest : goal.returns-clause-greatest
returns-clause-greatest c = limit_is_greatest

pub returns-clause-group : goal.returns-clause-group
returns-clause-group c = group_within
