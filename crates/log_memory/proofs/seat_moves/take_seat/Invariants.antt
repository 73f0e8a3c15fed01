use Rattle.log_memory.proofs.seat_moves.take_seat.Given as goal

abbrev pub ghosts-take_seat_as : goal.ghosts-take_seat_as
ghosts-take_seat_as a = record { identity = a.table.now.key.key.identity; start = a.table.now.key.key.start }
