use Rattle.std.proofs.Common.{ℕ, ◌%◌, ap, sym, ◌∙◌, subst, arith}
use Rattle.atomic_table.specs.Table.{Allows}
use Rattle.log_rule.specs.Claims.Packs.{tail_place}
use Rattle.log_memory.specs.Kinds.{ShowsPartition}
use Rattle.log_memory.specs.Rule.{LogMemoryRuled}
use Rattle.log_memory.specs.Steps.{Mine}
use Rattle.log_memory.proofs.Seating.{seats_keep}
use Rattle.log_memory.proofs.seat_moves.show_as.Goals as goal

pub load-requires : goal.load-requires
load-requires g c =
    let t = c.args.table.now.key in let id = c.args.seat.now.id in let m : Mine = c.args.seat.now.me in let slots = c.args.table.now.table_id.slots in let k : ℕ = g.N.Chosen.number in (
      c.requires.seat.of,
      (let w = c.requires.seat.words in let low = c.place_of.ensures.low in omega arith),
      subst (λ (i : ℕ). Allows (LogMemoryRuled t) slots id m i (λ n. n) (ShowsPartition (k % 3) m)) (ap tail_place c.requires.chosen ∙ sym c.place_of.ensures.is) (seats_keep.show t id m c.requires.idle k slots),
    )

pub returns-clause-told : goal.returns-clause-told
returns-clause-told g c = subst (λ (k : ℕ). ShowsPartition (k % 3) c.args.seat.now.me c.load.result c.load.new.seat.me) c.requires.chosen c.load.ensures.2
