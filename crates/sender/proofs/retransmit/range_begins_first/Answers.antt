use Rattle.sender.proofs.Resending.Ranges.{range_begins_first}
use Rattle.sender.proofs.retransmit.range_begins_first.Goals as goal

pub returns : goal.returns
returns c = range_begins_first
