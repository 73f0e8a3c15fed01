use Rattle.log_rule.proofs.Looked.{others_are_looks}
use Rattle.log_rule.proofs.law.others_are_looks.Goals as goal

pub returns : goal.returns
returns c = others_are_looks
