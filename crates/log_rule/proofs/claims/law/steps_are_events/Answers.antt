use Rattle.log_rule.proofs.Claimed.Eventful.{steps_are_events}
use Rattle.log_rule.proofs.claims.law.steps_are_events.Goals as goal

pub returns : goal.returns
returns c = steps_are_events
