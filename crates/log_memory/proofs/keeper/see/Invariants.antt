use Rattle.log_memory.proofs.keeper.see.Given as goal

abbrev pub ghosts-see_as : goal.ghosts-see_as
ghosts-see_as a = record { number = a.number }
