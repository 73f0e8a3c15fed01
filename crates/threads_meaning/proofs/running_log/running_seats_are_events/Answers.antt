use Rattle.threads_meaning.proofs.BoardSeats.{running_seats}
use Rattle.threads_meaning.proofs.running_log.running_seats_are_events.Goals as goal

pub returns : goal.returns
returns c = running_seats c.seats_keep.ensures
