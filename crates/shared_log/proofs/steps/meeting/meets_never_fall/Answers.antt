use Rattle.shared_log.proofs.Together.{never_falls}
use Rattle.shared_log.proofs.steps.meeting.meets_never_fall.Goals as goal

pub returns : goal.returns
returns c = never_falls
