use Rattle.channel_meaning.proofs.Copies.{copies_all_of_it}
use Rattle.channel_meaning.proofs.copies_all_of_it.Goals as goal

pub returns : goal.returns
returns c = copies_all_of_it c.writes_all_of_it.ensures
