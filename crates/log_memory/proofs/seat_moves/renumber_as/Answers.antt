use Rattle.std.proofs.Common.{ℕ, ◌<◌, sym, subst, arith}
use Rattle.log_memory.proofs.Seating.{seats_keep}
use Rattle.log_memory.proofs.seat_moves.renumber_as.Goals as goal

pub split_seat-requires : goal.split_seat-requires
split_seat-requires g c = (c.requires.seat.of, (let w = c.requires.seat.words in omega arith), seats_keep.renumber c.args.table.now.key c.args.seat.now.id c.args.seat.now.me.0 c.requires.idle g.N.Chosen.number (subst (λ (n : ℕ). n < 8) (sym c.requires.chosen) c.requires.number) c.requires.whole)
