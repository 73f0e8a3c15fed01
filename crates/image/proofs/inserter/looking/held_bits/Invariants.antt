use Rattle.image.proofs.inserter.looking.held_bits.Given as goal

abbrev pub ghosts-fetch_as : goal.ghosts-fetch_as
ghosts-fetch_as a = record { number = a.place }
