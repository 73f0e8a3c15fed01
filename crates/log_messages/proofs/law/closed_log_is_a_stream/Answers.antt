use Rattle.log_messages.proofs.Closing.{closed_is_stream}
use Rattle.log_messages.proofs.law.closed_log_is_a_stream.Goals as goal

pub returns : goal.returns
returns c = closed_is_stream c.messages_between.ensures.given
