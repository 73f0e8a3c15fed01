use Rattle.image.proofs.inserter.clearing.drop_bits_as.Given as goal

abbrev pub ghosts-fetch_as : goal.ghosts-fetch_as
ghosts-fetch_as g a = record { number = a.place }
