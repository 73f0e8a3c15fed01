use Rattle.log_memory.proofs.seat_moves.take_consumer.Given as goal

abbrev pub ghosts-take_consumer_as : goal.ghosts-take_consumer_as
ghosts-take_consumer_as a = record { identity = a.table.now.key.key.identity; start = a.table.now.key.key.start }
