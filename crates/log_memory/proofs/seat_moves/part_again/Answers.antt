use Rattle.std.proofs.Common.{arith}
use Rattle.log_memory.proofs.Seating.{seats_keep}
use Rattle.log_memory.proofs.seat_moves.part_again.Goals as goal

pub split_seat-requires : goal.split_seat-requires
split_seat-requires g c =
    let may = c.requires.may in (
      c.requires.seat.of,
      (let w = c.requires.seat.words in omega arith),
      seats_keep.part_again c.args.table.now.key c.args.seat.now.id c.args.seat.now.me.0 c.requires.idle may.shown g.N.Met.one g.N.Met.other may.is may.steady may.steady_other may.gather.unarmed may.gather.other may.gather.parts may.parts may.identity may.start may.plain,
    )
