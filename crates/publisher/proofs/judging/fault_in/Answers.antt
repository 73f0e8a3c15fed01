use Rattle.publisher.proofs.Faults.{stopped}
use Rattle.publisher.proofs.judging.fault_in.Goals as goal

pub returns-in-Err-clause-stops : goal.returns-in-Err-clause-stops
returns-in-Err-clause-stops c = let reading = c.in-Some.reading in stopped reading.geometry reading.ended c.in-Err.fault _ reading.stops c.in-Err.is c.from.ensures
