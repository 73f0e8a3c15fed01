use Rattle.std.proofs.Common.{◌≡◌, ℕ, ◌+◌, ◌*◌, sym, subst, arith}
use Rattle.atomic_table.specs.Table.{Allows}
use Rattle.log_rule.specs.Claims.Packs.{consumer_place}
use Rattle.log_memory.specs.declared.view.Site.{Site}
use Rattle.log_memory.specs.Kinds.{LoadsPosition}
use Rattle.log_memory.specs.Steps.{Mine}
use Rattle.log_memory.specs.Rule.{LogMemoryRuled}
use Rattle.log_memory.proofs.Kept.{steps_keep}
use Rattle.log_memory.proofs.keeper.see_as.Goals as goal

pub load-requires : goal.load-requires
load-requires g c =
    let t : Site = c.args.table.now.key in let id = c.args.seat.now.id in let m : Mine = c.args.seat.now.me in let slots = c.args.table.now.table_id.slots in let number : ℕ = c.args.number in let low = c.requires.low in (
      c.requires.seat.of,
      (let w = c.requires.seat.words in omega arith),
      subst (λ (x : ℕ × ℕ). Allows (LogMemoryRuled t) slots id m x.0 (λ n. n) (LoadsPosition x.1 m)) (λ j. ((let e : consumer_place number ≡ 80 + 16 * number = omega arith in e) j, sym c.requires.chosen j))
          (steps_keep.sweep t id number m c.requires.keeper c.requires.there low c.requires.idle slots),
    )

pub returns-clause-told : goal.returns-clause-told
returns-clause-told g c = subst (λ (k : ℕ). LoadsPosition k c.args.seat.now.me c.load.result c.load.new.seat.me) c.requires.chosen c.load.ensures.2
