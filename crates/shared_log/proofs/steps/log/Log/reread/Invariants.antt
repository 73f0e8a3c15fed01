use Rattle.shared_log.specs.Steps.Readers.{frame_from, had_at, reading_at}
use Rattle.shared_log.proofs.steps.log.Log.reread.Given as goal

abbrev pub ghosts-reread : goal.ghosts-reread
ghosts-reread a = record { site = a.memory.now.table.shared.key; number = a.consumer.now.place; reading = reading_at a.consumer.now.place a.seat.now.me.0.view.pass.reading; frame = frame_from a.start (had_at a.consumer.now.place a.seat.now.me.0.view.pass) }
