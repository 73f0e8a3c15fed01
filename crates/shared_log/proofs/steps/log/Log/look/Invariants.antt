use Rattle.log_memory.specs.Kinds.{no_frame}
use Rattle.shared_log.specs.Steps.Readers.{reading_at}
use Rattle.shared_log.proofs.steps.log.Log.look.Given as goal

abbrev pub ghosts-look : goal.ghosts-look
ghosts-look a = record { site = a.memory.now.table.shared.key; number = a.consumer.now.place; reading = reading_at a.consumer.now.place a.seat.now.me.0.view.pass.reading; frame = no_frame }
