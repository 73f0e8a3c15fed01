use Rattle.subscriber.proofs.Alone.{one_session_ends}
use Rattle.subscriber.proofs.laws.one_session_ends.Goals as goal

pub returns : goal.returns
returns c = one_session_ends
