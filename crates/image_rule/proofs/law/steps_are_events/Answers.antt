use Rattle.image_rule.proofs.Events.{steps_are_events}
use Rattle.image_rule.proofs.law.steps_are_events.Goals as goal

pub returns : goal.returns
returns c = steps_are_events
