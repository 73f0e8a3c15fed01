use Rattle.image.proofs.inserter.storing.set_first_as.Given as goal

abbrev pub ghosts-fetch_as : goal.ghosts-fetch_as
ghosts-fetch_as g a = record { number = a.place }
