use Rattle.std.proofs.Common.{arith}
use Rattle.log_memory.proofs.Kept.{steps_keep}
use Rattle.log_memory.proofs.room_moves.park.Goals as goal

pub load-requires : goal.load-requires
load-requires c = (c.requires.seat.of, (let w = c.requires.seat.words in omega arith), steps_keep.park c.args.table.now.key c.args.seat.now.id 0 c.args.seat.now.me c.requires.idle c.requires.holds c.args.table.now.table_id.slots)
