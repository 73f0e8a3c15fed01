use Rattle.log_memory.proofs.Seating.{seats_keep}
use Rattle.log_memory.proofs.law.seats_keep.Goals as goal

pub returns : goal.returns
returns c = seats_keep
