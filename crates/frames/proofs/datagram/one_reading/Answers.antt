use Rattle.theory.proofs.Readings.{one_reading}
use Rattle.frames.proofs.datagram.one_reading.Goals as goal

pub returns : goal.returns
returns c = λ bytes a b p q. one_reading a b bytes p q
