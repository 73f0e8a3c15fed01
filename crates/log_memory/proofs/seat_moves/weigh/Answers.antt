use Rattle.std.proofs.Common.{arith}
use Rattle.log_memory.proofs.Seating.{seats_keep}
use Rattle.log_memory.proofs.seat_moves.weigh.Goals as goal

pub load-requires : goal.load-requires
load-requires c = let w = c.requires.seat.words in (c.requires.seat.of, (omega arith), seats_keep.weigh c.args.table.now.key c.args.seat.now.id c.args.seat.now.me c.requires.idle 0 (omega arith) c.args.table.now.table_id.slots)

pub returns-clause-told : goal.returns-clause-told
returns-clause-told c = (c.load.result, c.load.ensures.2)
