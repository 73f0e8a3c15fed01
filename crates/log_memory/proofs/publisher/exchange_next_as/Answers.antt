use Rattle.std.proofs.Common.{ℕ, suc, ◌+◌, ap, sym, ◌∙◌, subst, arith}
use Rattle.std.specs.Prelude.{◌==◌}
use prog.Atomic.{either}
use Rattle.atomic_table.specs.Table.{Allows}
use Rattle.theory.specs.Position.{id_of}
use Rattle.theory.specs.Words.{id_before, tail_word}
use Rattle.publication.specs.Steps.{geometry_of}
use Rattle.log_rule.specs.Claims.Packs.{tail_place}
use Rattle.log_memory.specs.Kinds.{ExchangesNext}
use Rattle.log_memory.specs.Rule.{LogMemoryRuled}
use Rattle.log_memory.specs.Steps.{Mine}
use Rattle.log_memory.proofs.Kept.{steps_keep}
use Rattle.log_memory.proofs.publisher.exchange_next_as.Goals as goal

pub compare_exchange-requires : goal.compare_exchange-requires
compare_exchange-requires g c =
    let t = c.args.table.now.key in let id = c.args.seat.now.id in let m : Mine = c.args.seat.now.me in let slots = c.args.table.now.table_id.slots in let k : ℕ = g.N.Chosen.number in let is = c.requires.chosen in let last = c.requires.last in let from : ℕ = c.args.from in (
      c.requires.seat.of,
      (let w = c.requires.seat.words in let low = c.place_of.ensures.low in omega arith),
      subst (λ (x : ℕ × ℕ). Allows (LogMemoryRuled t) slots id m x.0 (λ n. either (n == from) x.1 n) (ExchangesNext k from m)) (λ j. ((ap (λ (z : ℕ). tail_place (z + 1)) is ∙ sym c.place_of.ensures.is) j, (ap (λ (z : ℕ). tail_word (id_of (geometry_of m.0.view.pass) (z + 1)) 0) is ∙ sym c.requires.to) j))
          (steps_keep.exchange_next t id m c.requires.idle k from c.requires.parts (c.requires.full ∙ ap suc (sym is)) (omega arith) (c.requires.from ∙ ap (λ (z : ℕ). id_before (geometry_of m.0.view.pass) z 2) (sym is)) slots),
    )

pub returns-clause-told : goal.returns-clause-told
returns-clause-told g c = subst (λ (k : ℕ). ExchangesNext k c.args.from c.args.seat.now.me c.compare_exchange.result c.compare_exchange.new.seat.me) c.requires.chosen c.compare_exchange.ensures.2
