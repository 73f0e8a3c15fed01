use Rattle.std.proofs.Common.{◌*◌, arith}
use Rattle.log_memory.specs.Rights.{IsAnything}
use Rattle.log_memory.specs.Steps.{IsRoomAt}
use Rattle.log_memory.proofs.Rounds.{front}
use Rattle.log_memory.proofs.rights.take_unit.Goals as goal

pub exchange-write-requires : goal.exchange-write-requires
exchange-write-requires g c = let f = front (IsRoomAt c.args.table.now.key) IsAnything c.args.first (8 * c.args.units) c.args.done g.N.Rowed.behind c.args.seat.now.me.1 c.requires.row (let p = c.requires.place in omega arith) in (c.requires.seat, (f.0, f.1))
