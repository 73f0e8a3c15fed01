use Rattle.sender.proofs.Resending.Near.{near_are_enough, near_stay_near}
use Rattle.sender.proofs.Resending.Ranges.{near_give_range}
use Rattle.sender.proofs.retransmit.near_starts_suffice.Goals as goal

pub returns : goal.returns
returns c = record { answers = near_are_enough; later = near_stay_near; range = near_give_range }
