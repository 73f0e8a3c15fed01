use Rattle.image.proofs.inserter.clearing.clear_part.Given as goal

abbrev pub ghosts-drop_bits_as : goal.ghosts-drop_bits_as
ghosts-drop_bits_as a = record { place = a.place; floor = a.floor }
