use Rattle.std.proofs.Common.{ℕ, sym, subst, arith}
use Rattle.atomic_table.specs.Table.{Allows}
use Rattle.log_memory.specs.declared.view.Site.{Site}
use Rattle.log_memory.specs.Steps.{CleansTo, Mine}
use Rattle.log_memory.specs.Rule.{LogMemoryRuled}
use Rattle.log_memory.proofs.Kept.{steps_keep}
use Rattle.log_memory.proofs.keeper.clean_to_as.Goals as goal

pub load-requires : goal.load-requires
load-requires g c =
    let t : Site = c.args.table.now.key in let id = c.args.seat.now.id in let m : Mine = c.args.seat.now.me in let slots = c.args.table.now.table_id.slots in (
      c.requires.seat.of,
      (let w = c.requires.seat.words in omega arith),
      subst (λ (e : ℕ). Allows (LogMemoryRuled t) slots id m 0 (λ n. n) (λ _ w. CleansTo e m w)) (sym c.requires.chosen) (steps_keep.clean_to t id 0 c.args.end m c.requires.may c.requires.idle slots),
    )

pub returns-clause-told : goal.returns-clause-told
returns-clause-told g c = subst (λ (e : ℕ). CleansTo e c.args.seat.now.me c.load.new.seat.me) c.requires.chosen c.load.ensures.2
