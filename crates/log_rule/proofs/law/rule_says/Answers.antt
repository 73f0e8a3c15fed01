use Rattle.log_rule.proofs.Saying.{rule_says}
use Rattle.log_rule.proofs.law.rule_says.Goals as goal

pub returns : goal.returns
returns c = rule_says
