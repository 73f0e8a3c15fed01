use Rattle.image_rule.specs.Reads.{first_of}
use Rattle.image.proofs.reader.reading.advance.Given as goal

abbrev pub ghosts-move_as : goal.ghosts-move_as
ghosts-move_as a = record { site = a.image.now.table.shared.key; frame = first_of a.reader.now.seat.me.0.reading.known; unit = 0; place = 0 }
