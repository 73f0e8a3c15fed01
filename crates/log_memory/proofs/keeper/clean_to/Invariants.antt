use Rattle.log_memory.proofs.keeper.clean_to.Given as goal

abbrev pub ghosts-clean_to_as : goal.ghosts-clean_to_as
ghosts-clean_to_as a = record { number = a.end }
