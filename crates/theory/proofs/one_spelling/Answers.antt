use Rattle.theory.proofs.Spelled.{one_spelling}
use Rattle.theory.proofs.Readings.{one_reading}
use Rattle.theory.proofs.one_spelling.Goals as goal

pub returns-clause-frame : goal.returns-clause-frame
returns-clause-frame c = one_spelling

pub returns-clause-datagram : goal.returns-clause-datagram
returns-clause-datagram c = one_reading
