use Rattle.channel_meaning.proofs.Books.{writes_all_of_it}
use Rattle.channel_meaning.proofs.writes_all_of_it.Goals as goal

pub returns : goal.returns
returns c = writes_all_of_it c.publishes_all_of_it.ensures c.writes_what_is_read.ensures
