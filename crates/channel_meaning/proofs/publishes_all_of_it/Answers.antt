use Rattle.channel_meaning.proofs.Books.{publishes_all_of_it}
use Rattle.channel_meaning.proofs.publishes_all_of_it.Goals as goal

pub returns : goal.returns
returns c = publishes_all_of_it
