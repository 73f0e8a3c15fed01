use Rattle.std.proofs.Common.{ℕ, sym, ap, ◌∙◌, subst}
use Rattle.atomic_table.specs.Table.{Allows}
use Rattle.log_memory.specs.declared.view.Site.{Site}
use Rattle.log_memory.specs.Places.{head_place}
use Rattle.log_memory.specs.Steps.{Mine, Rereads}
use Rattle.log_memory.specs.Rule.{LogMemoryRuled, ring}
use Rattle.log_memory.proofs.Kept.{steps_keep}
use Rattle.log_memory.proofs.reader.reread.Goals as goal

pub load-requires : goal.load-requires
load-requires g c =
    let t : Site = c.args.memory.now.table.shared.key in let id = c.args.seat.now.id in let m : Mine = c.args.seat.now.me in let slots = c.args.memory.now.table.shared.table_id.slots in let r = g.N.Picked.reading in let f = g.N.Picked.frame in (
      c.requires.seat.of,
      c.head-head.ensures.inside,
      subst (λ (x : ℕ × Site). Allows (LogMemoryRuled t) slots id m x.0 (λ n. n) (λ n w. Rereads x.1 r f m n w)) (λ j. ((ap (head_place (ring t)) c.requires.start ∙ sym c.head-head.ensures.is) j, sym c.requires.site j)) (steps_keep.reread t id g.N.Picked.number r f m c.requires.may c.requires.idle slots),
    )

pub returns-clause-told : goal.returns-clause-told
returns-clause-told g c = subst (λ (t : Site). Rereads t g.N.Picked.reading g.N.Picked.frame c.args.seat.now.me c.load.result c.load.new.seat.me) c.requires.site c.load.ensures.2
