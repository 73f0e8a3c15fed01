use Rattle.channel_meaning.proofs.Both.{writes_what_is_read}
use Rattle.channel_meaning.proofs.writes_what_is_read.Goals as goal

pub returns : goal.returns
returns c = writes_what_is_read c.setups_are_honest.ensures c.publishes_its_stream.ensures c.stream_gives_honest.ensures c.polls_a_run.ensures
