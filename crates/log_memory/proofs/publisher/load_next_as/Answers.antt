use Rattle.std.proofs.Common.{ℕ, suc, ◌+◌, ap, sym, ◌∙◌, subst, arith}
use Rattle.atomic_table.specs.Table.{Allows}
use Rattle.log_rule.specs.Claims.Packs.{tail_place}
use Rattle.log_memory.specs.Kinds.{LoadsNext}
use Rattle.log_memory.specs.Rule.{LogMemoryRuled}
use Rattle.log_memory.specs.Steps.{Mine}
use Rattle.log_memory.proofs.Kept.{steps_keep}
use Rattle.log_memory.proofs.publisher.load_next_as.Goals as goal

pub load-requires : goal.load-requires
load-requires g c =
    let t = c.args.table.now.key in let id = c.args.seat.now.id in let m : Mine = c.args.seat.now.me in let slots = c.args.table.now.table_id.slots in let k : ℕ = g.N.Chosen.number in let is = c.requires.chosen in let last = c.requires.last in (
      c.requires.seat.of,
      (let w = c.requires.seat.words in let low = c.place_of.ensures.low in omega arith),
      subst (λ (i : ℕ). Allows (LogMemoryRuled t) slots id m i (λ n. n) (LoadsNext k m)) (ap (λ (z : ℕ). tail_place (z + 1)) is ∙ sym c.place_of.ensures.is) (steps_keep.load_next t id m c.requires.idle k (c.requires.full ∙ ap suc (sym is)) (omega arith) slots),
    )

pub returns-clause-told : goal.returns-clause-told
returns-clause-told g c = subst (λ (k : ℕ). LoadsNext k c.args.seat.now.me c.load.result c.load.new.seat.me) c.requires.chosen c.load.ensures.2
