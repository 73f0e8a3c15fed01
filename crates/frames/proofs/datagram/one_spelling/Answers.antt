use Rattle.theory.proofs.Spelled.{one_spelling}
use Rattle.frames.proofs.datagram.one_spelling.Goals as goal

pub returns : goal.returns
returns c = one_spelling
