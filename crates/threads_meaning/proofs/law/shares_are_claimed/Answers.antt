use Rattle.threads_meaning.proofs.Telling.{frames_are_committed, shares_are_claimed}
use Rattle.threads_meaning.proofs.law.shares_are_claimed.Goals as goal

pub returns-clause-shares : goal.returns-clause-shares
returns-clause-shares c = shares_are_claimed

pub returns-clause-frames : goal.returns-clause-frames
returns-clause-frames c = frames_are_committed
