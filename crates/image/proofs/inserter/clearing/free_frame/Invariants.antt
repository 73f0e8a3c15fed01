use Rattle.image.specs.Memory.{found_at}
use Rattle.image.proofs.inserter.clearing.free_frame.Given as goal

abbrev pub ghosts-free_as : goal.ghosts-free_as
ghosts-free_as a = record { site = a.image.now.table.shared.key; frame = found_at a.hand.now.seat.me.0.held.got a.unit; unit = 0; place = 0 }
