use Rattle.log_memory.proofs.publisher.load_next.Given as goal

abbrev pub ghosts-load_next_as : goal.ghosts-load_next_as
ghosts-load_next_as a = record { number = a.count }
