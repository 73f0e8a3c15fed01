use Rattle.log_memory.proofs.seat_moves.show.Given as goal

abbrev pub ghosts-show_as : goal.ghosts-show_as
ghosts-show_as a = record { number = a.partition }
