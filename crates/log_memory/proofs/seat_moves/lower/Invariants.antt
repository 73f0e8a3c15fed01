use Rattle.log_memory.proofs.seat_moves.lower.Given as goal

abbrev pub ghosts-lower_as : goal.ghosts-lower_as
ghosts-lower_as a = record { identity = a.table.now.key.key.identity; start = a.table.now.key.key.start }
