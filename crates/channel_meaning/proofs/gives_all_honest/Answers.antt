use Rattle.channel_meaning.proofs.Books.{gives_all_honest}
use Rattle.channel_meaning.proofs.gives_all_honest.Goals as goal

pub returns : goal.returns
returns c = gives_all_honest c.publishes_all_of_it.ensures c.stream_gives_honest.ensures
