use Rattle.std.proofs.Common.{arith}
use Rattle.log_memory.proofs.Seating.{seats_keep}
use Rattle.log_memory.proofs.seat_moves.lift.Goals as goal

pub split_seat-requires : goal.split_seat-requires
split_seat-requires c = (c.requires.seat.of, (let w = c.requires.seat.words in omega arith), seats_keep.lift c.args.table.now.key c.args.seat.now.id c.args.seat.now.me.0 c.requires.idle)
