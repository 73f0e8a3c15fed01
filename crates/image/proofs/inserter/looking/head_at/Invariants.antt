use Rattle.image.proofs.inserter.looking.head_at.Given as goal

abbrev pub ghosts-fetch_as : goal.ghosts-fetch_as
ghosts-fetch_as a = record { number = a.place }
