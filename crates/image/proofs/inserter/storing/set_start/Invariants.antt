use Rattle.image.proofs.inserter.storing.set_start.Given as goal

abbrev pub ghosts-set_bits_as : goal.ghosts-set_bits_as
ghosts-set_bits_as a = record { place = a.place; floor = a.hand.now.seat.me.0.held.floor }
