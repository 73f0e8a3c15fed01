use Rattle.log_memory.proofs.seat_moves.hand_over.Given as goal

abbrev pub ghosts-hand_over_as : goal.ghosts-hand_over_as
ghosts-hand_over_as a = record { identity = a.table.now.key.key.identity; start = a.table.now.key.key.start }
