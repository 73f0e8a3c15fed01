use Rattle.log_memory.specs.Kinds.{no_frame, no_reading}
use Rattle.log_memory.proofs.room_moves.fetch.Given as goal

abbrev pub ghosts-fetch_as : goal.ghosts-fetch_as
ghosts-fetch_as a = record { site = a.table.now.key; number = 0; reading = no_reading; frame = no_frame }
