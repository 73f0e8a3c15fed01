use Rattle.std.proofs.Common.{ℕ, sym, subst}
use Rattle.atomic_table.specs.Table.{Allows}
use Rattle.log_memory.specs.declared.view.Site.{Site}
use Rattle.log_memory.specs.Steps.{GivesRoom, Mine}
use Rattle.log_memory.specs.Rule.{LogMemoryRuled, ring}
use Rattle.log_memory.proofs.HeadPlaces.{head_low}
use Rattle.log_memory.proofs.Kept.{steps_keep}
use Rattle.log_memory.proofs.keeper.give_room.Goals as goal

pub store-requires : goal.store-requires
store-requires c =
    let t : Site = c.args.table.now.key in let id = c.args.seat.now.id in let m : Mine = c.args.seat.now.me in let slots = c.args.table.now.table_id.slots in (
      c.requires.seat.of,
      head_low (ring t) m.0.room.freed c.args.place c.args.table.now.table_id.words c.requires.place c.requires.seat.words c.requires.seat.some,
      subst (λ (i : ℕ). Allows (LogMemoryRuled t) slots id m i (λ _. 0) (λ _ w. GivesRoom m w)) (sym c.requires.place) (steps_keep.give_room t id m c.requires.may slots),
    )
