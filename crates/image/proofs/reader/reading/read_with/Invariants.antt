use Rattle.image_rule.specs.Reads.{first_of, no_frame}
use Rattle.image_rule.specs.Steps.{no_site}
use Rattle.image.proofs.reader.reading.read_with.Given as goal

abbrev pub ghosts-look_as : goal.ghosts-look_as
ghosts-look_as g a = record { site = a.image.now.table.shared.key; frame = no_frame; unit = 0; place = 0 }

abbrev pub ghosts-read_held : goal.ghosts-read_held
ghosts-read_held g a = record { site = no_site; frame = first_of a.reader.now.seat.me.0.reading.known; unit = 0; place = 0 }
