use Rattle.sender_meaning.proofs.Honest.{setups_are_honest}
use Rattle.sender_meaning.proofs.setups_are_honest.Goals as goal

pub returns : goal.returns
returns c = setups_are_honest c.one_spelling.ensures.datagram
