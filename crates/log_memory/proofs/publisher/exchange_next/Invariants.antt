use Rattle.log_memory.proofs.publisher.exchange_next.Given as goal

abbrev pub ghosts-exchange_next_as : goal.ghosts-exchange_next_as
ghosts-exchange_next_as a = record { number = a.count }
