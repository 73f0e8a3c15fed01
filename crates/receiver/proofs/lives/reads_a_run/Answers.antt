use Rattle.receiver.proofs.Lived.OfCore.{keeps_image, reads_a_run}
use Rattle.receiver.proofs.lives.reads_a_run.Goals as goal

pub returns-clause-image : goal.returns-clause-image
returns-clause-image c = keeps_image

pub returns-clause-run : goal.returns-clause-run
returns-clause-run c = reads_a_run (record { place = c.names_place.ensures.place; header = c.names_place.ensures.header }) c.messages_between.ensures.given
