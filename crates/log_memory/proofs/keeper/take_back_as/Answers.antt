use Rattle.std.proofs.Common.{ℕ, sym, subst}
use Rattle.atomic_table.specs.Table.{Allows}
use Rattle.log_memory.specs.declared.view.Site.{Site}
use Rattle.log_memory.specs.Steps.{Mine, TakesBack}
use Rattle.log_memory.specs.Rule.{LogMemoryRuled, ring}
use Rattle.log_memory.proofs.HeadPlaces.{head_low}
use Rattle.log_memory.proofs.Kept.{steps_keep}
use Rattle.log_memory.proofs.keeper.take_back_as.Goals as goal

pub load-requires : goal.load-requires
load-requires g c =
    let t : Site = c.args.table.now.key in let id = c.args.seat.now.id in let m : Mine = c.args.seat.now.me in let slots = c.args.table.now.table_id.slots in (
      c.requires.seat.of,
      head_low (ring t) m.0.room.freed c.args.place c.args.table.now.table_id.words c.requires.place c.requires.seat.words c.requires.seat.some,
      subst (λ (x : ℕ × Site). Allows (LogMemoryRuled t) slots id m x.0 (λ n. n) (λ n w. TakesBack x.1 m n w)) (λ j. (sym c.requires.place j, sym c.requires.site j)) (steps_keep.take_back t id m c.requires.may slots),
    )

pub returns-clause-told : goal.returns-clause-told
returns-clause-told g c = subst (λ (t : Site). TakesBack t c.args.seat.now.me c.load.result c.load.new.seat.me) c.requires.site c.load.ensures.2
