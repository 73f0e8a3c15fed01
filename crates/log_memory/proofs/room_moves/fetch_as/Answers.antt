use Rattle.std.proofs.Common.{ℕ, sym, subst, arith}
use Rattle.atomic_table.specs.Table.{Allows}
use Rattle.log_memory.specs.declared.view.Site.{Site}
use Rattle.log_memory.specs.Parking.{Fetches}
use Rattle.log_memory.specs.Rule.{LogMemoryRuled}
use Rattle.log_memory.specs.Steps.{Mine}
use Rattle.log_memory.proofs.Kept.{steps_keep}
use Rattle.log_memory.proofs.room_moves.fetch_as.Goals as goal

pub load-requires : goal.load-requires
load-requires g c =
    let t : Site = c.args.table.now.key in let m : Mine = c.args.seat.now.me in let slots : ℕ = c.args.table.now.table_id.slots in
    (c.requires.seat.of, (let w = c.requires.seat.words in omega arith), subst (λ (x : Site). Allows (LogMemoryRuled t) slots c.args.seat.now.id m 0 (λ n. n) (λ _ w. Fetches x m w)) (sym c.requires.site) (steps_keep.fetch t c.args.seat.now.id 0 m c.requires.idle c.requires.apart slots))
