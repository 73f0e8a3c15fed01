use Rattle.receiver.proofs.Lived.Whole.{polls_a_run}
use Rattle.receiver.proofs.lives.polls_a_run.Goals as goal

pub returns : goal.returns
returns c = polls_a_run (record { place = c.names_place.ensures.place; header = c.names_place.ensures.header }) c.messages_between.ensures.given
