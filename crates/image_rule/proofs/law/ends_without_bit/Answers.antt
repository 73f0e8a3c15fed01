use Rattle.image_rule.proofs.Events.{ends_without_bit}
use Rattle.image_rule.proofs.law.ends_without_bit.Goals as goal

pub returns : goal.returns
returns c = ends_without_bit
