use Rattle.log_memory.specs.Kinds.{no_frame, no_reading}
use Rattle.log_memory.proofs.keeper.take_back.Given as goal

abbrev pub ghosts-take_back_as : goal.ghosts-take_back_as
ghosts-take_back_as a = record { site = a.table.now.key; number = 0; reading = no_reading; frame = no_frame }
