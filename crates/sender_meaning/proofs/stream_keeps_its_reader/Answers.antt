use Rattle.sender_meaning.proofs.StreamLiving.{keeps_its_reader}
use Rattle.sender_meaning.proofs.stream_keeps_its_reader.Goals as goal

pub returns : goal.returns
returns c = keeps_its_reader
