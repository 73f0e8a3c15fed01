use Rattle.sender_meaning.proofs.Both.{polls_what_is_sent}
use Rattle.sender_meaning.proofs.polls_what_is_sent.Goals as goal

pub returns : goal.returns
returns c = polls_what_is_sent c.stream_gives_honest.ensures c.polls_a_run.ensures
