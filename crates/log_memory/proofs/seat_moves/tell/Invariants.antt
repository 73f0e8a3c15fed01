use Rattle.log_memory.proofs.seat_moves.tell.Given as goal

abbrev pub ghosts-tell_as : goal.ghosts-tell_as
ghosts-tell_as a = record { identity = a.table.now.key.key.identity; start = a.table.now.key.key.start }
