use Rattle.image_rule.proofs.Saying.{rule_says}
use Rattle.image_rule.proofs.law.rule_says.Goals as goal

pub returns : goal.returns
returns c = rule_says
