use Rattle.std.proofs.Common.{rules}
use Rattle.peer.proofs.attended.Attended.is_again.Goals as goal
use Rattle.peer.proofs.attended.Attended.is_again.Goals.{in-Data, in-Data-2}

pub returns : goal.returns
returns g c = elim c.match-frame.branch [ in-Data w ↦ search rules | in-Data-2 w ↦ search rules ]
