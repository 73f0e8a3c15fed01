use Rattle.log_memory.proofs.seat_moves.meet.Given as goal

abbrev pub ghosts-meet_as : goal.ghosts-meet_as
ghosts-meet_as a = record { identity = a.table.now.key.key.identity; start = a.table.now.key.key.start }
