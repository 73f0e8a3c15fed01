use Rattle.image_rule.specs.Reads.{no_frame}
use Rattle.image.specs.Memory.{found_at}
use Rattle.image.specs.Parts.{part_in}
use Rattle.image.proofs.inserter.clearing.take_frame.Given as goal

abbrev pub ghosts-take_as : goal.ghosts-take_as
ghosts-take_as a = record { site = a.image.now.table.shared.key; frame = no_frame; unit = a.unit; place = 0 }

abbrev pub ghosts-gather_parts : goal.ghosts-gather_parts
ghosts-gather_parts a =
    record { site = a.image.now.table.shared.key; frame = found_at a.hand.now.seat.me.0.held.got a.unit; round = (part_in a.hand.now.seat.me.1).round.life; book = (part_in a.hand.now.seat.me.1).round.book }
