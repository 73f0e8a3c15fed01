use Rattle.peer.proofs.Passing.{passed_over}
use Rattle.peer.proofs.tied.passing_is_bounded.Goals as goal

pub returns : goal.returns
returns c = passed_over
