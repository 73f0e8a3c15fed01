use Rattle.log_memory.specs.Open.{slots_in}
use Rattle.log_memory.proofs.room_moves.take_over.Given as goal

abbrev pub ghosts-take_over_as : goal.ghosts-take_over_as
ghosts-take_over_as a = record { number = slots_in a.other.me.0.view.pass.work.drafts }
