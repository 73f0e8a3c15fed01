use Rattle.std.proofs.Common.{ℕ, sym, ◌∙◌, subst, arith}
use Rattle.atomic_table.specs.Table.{Joins}
use Rattle.theory.specs.Bytes.{Identity}
use Rattle.log_rule.specs.Claims.Closing.{spent_seat}
use Rattle.log_memory.specs.Lifted.{lowered}
use Rattle.log_memory.specs.Rule.{LogMemoryRuled}
use Rattle.log_memory.specs.Seats.{joining, spent_with}
use Rattle.log_memory.proofs.Seating.{seats_keep}
use Rattle.log_memory.proofs.seat_moves.lower_as.Goals as goal

pub join_seat-requires : goal.join_seat-requires
join_seat-requires g c =
    let t = c.args.table.now.key in let id = c.args.seat.now.id in let v = c.args.seat.now.me.0 in let other = c.args.other.id in let x = c.args.other.me.0 in let q = c.requires.carried in (
      c.requires.seat.of,
      c.requires.other.0 ∙ c.requires.seat.of,
      c.requires.other.1,
      (let w = c.requires.seat.words in omega arith),
      subst (λ (y : Identity × ℕ). Joins (LogMemoryRuled t) id v other x (joining lowered v x) (spent_with (spent_seat y.0 y.1))) (λ j. (sym q.0 j, sym q.1 j)) (seats_keep.lower t id other v x c.requires.idle.0 c.requires.idle.1 c.requires.none c.requires.plain),
    )
