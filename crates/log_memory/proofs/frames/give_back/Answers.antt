use Rattle.log_memory.proofs.Kept.{steps_keep}
use Rattle.log_memory.proofs.frames.give_back.Goals as goal

pub load-requires : goal.load-requires
load-requires c = let may = c.requires.may in (c.requires.seat.of, c.requires.inside, steps_keep.give c.args.memory.now.table.shared.key c.args.seat.now.id c.args.place may.reading may.frame c.args.seat.now.me may.may c.args.memory.now.table.shared.table_id.slots)
