use Rattle.std.proofs.Common.{ℕ, sym, ap, ◌∙◌, subst}
use Rattle.atomic_table.specs.Table.{Allows}
use Rattle.log_memory.specs.declared.view.Site.{Site}
use Rattle.log_memory.specs.Kinds.{LooksHere}
use Rattle.log_memory.specs.Places.{head_place}
use Rattle.log_memory.specs.Steps.{Mine}
use Rattle.log_memory.specs.Rule.{LogMemoryRuled, ring}
use Rattle.log_memory.proofs.HeadPlaces.{looks_here}
use Rattle.log_memory.proofs.reader.look.Goals as goal

pub load-requires : goal.load-requires
load-requires g c =
    let t : Site = c.args.memory.now.table.shared.key in let id = c.args.seat.now.id in let m : Mine = c.args.seat.now.me in let slots = c.args.memory.now.table.shared.table_id.slots in let r = g.N.Picked.reading in let k : ℕ = g.N.Picked.number in (
      c.requires.seat.of,
      c.head-head.ensures.inside,
      subst (λ (x : ℕ × Site). Allows (LogMemoryRuled t) slots id m x.0 (λ n. n) (LooksHere x.1 k r m)) (λ j. ((ap (head_place (ring t)) c.requires.stands ∙ sym c.head-head.ensures.is) j, sym c.requires.site j)) (looks_here t id k r m c.requires.consumer c.requires.low c.requires.idle slots),
    )

pub returns-clause-told : goal.returns-clause-told
returns-clause-told g c = subst (λ (t : Site). LooksHere t g.N.Picked.number g.N.Picked.reading c.args.seat.now.me c.load.result c.load.new.seat.me) c.requires.site c.load.ensures.2
