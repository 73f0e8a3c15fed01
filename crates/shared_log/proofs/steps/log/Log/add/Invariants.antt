use Rattle.log_memory.specs.Kinds.{no_frame, no_reading}
use Rattle.shared_log.proofs.steps.log.Log.add.Given as goal

abbrev pub ghosts-add_open : goal.ghosts-add_open
ghosts-add_open a = record { site = a.memory.now.table.shared.key; number = a.size; reading = no_reading; frame = no_frame }
