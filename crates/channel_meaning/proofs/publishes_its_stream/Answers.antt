use Rattle.channel_meaning.proofs.Streams.{publishes_its_stream}
use Rattle.channel_meaning.proofs.publishes_its_stream.Goals as goal

pub returns : goal.returns
returns c = publishes_its_stream
