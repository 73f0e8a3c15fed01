use Rattle.image.proofs.inserter.deal_reader.Given as goal

abbrev pub ghosts-deal_as : goal.ghosts-deal_as
ghosts-deal_as a = record { number = a.join }
