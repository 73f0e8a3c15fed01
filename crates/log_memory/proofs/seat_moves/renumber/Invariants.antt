use Rattle.log_memory.proofs.seat_moves.renumber.Given as goal

abbrev pub ghosts-renumber_as : goal.ghosts-renumber_as
ghosts-renumber_as a = record { number = a.number }
