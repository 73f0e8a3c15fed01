use Rattle.sender_meaning.proofs.StreamLiving.{gives_honest}
use Rattle.sender_meaning.proofs.stream_gives_honest.Goals as goal

pub returns : goal.returns
returns c = gives_honest c.one_spelling.ensures.datagram
