use Rattle.messages.proofs.Readings.{one_reading}
use Rattle.messages.proofs.laws.have_one_reading.Goals as goal

pub returns : goal.returns
returns g = one_reading
