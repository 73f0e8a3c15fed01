use Rattle.sender_meaning.proofs.StreamLiving.{looks_at_its_end}
use Rattle.sender_meaning.proofs.looks_at_its_end.Goals as goal

pub returns : goal.returns
returns c = looks_at_its_end
