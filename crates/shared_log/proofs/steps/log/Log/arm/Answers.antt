use Rattle.std.proofs.Common.{◌≡◌, ℕ, ◌<◌, ◌≤◌, ap, sym, ◌∙◌, subst, arith}
use Rattle.atomic_table.specs.Table.{Allows}
use Rattle.theory.specs.Placed.{Among}
use Rattle.log_rule.specs.Claims.Packs.{tail_place}
use Rattle.log_memory.specs.Kinds.{LoadsTail}
use Rattle.log_memory.specs.Rule.{LogMemoryRuled}
use Rattle.log_memory.specs.Steps.{Mine}
use Rattle.shared_log.specs.Steps.Handles.{LogId, LogValue, PublisherValue}
use Rattle.shared_log.proofs.steps.log.Log.arm.Goals as goal

pub load-requires : goal.load-requires
load-requires c =
    let m : Mine = c.pass.inside.seat.me in let table = c.self.inside.memory.table.shared in let t = table.key in let id = c.pass.inside.seat.id in let slots = table.table_id.slots in
    let parts = subst (λ (p : PublisherValue). 120 ≤ p.pass.right.parts) (sym c.pass.view_is) c.requires.parts in
    let own = subst (λ (p : PublisherValue). p.pass.right.parts < 1024 → Among p.pass.number p.pass.right.numbers) (sym c.pass.view_is) c.requires.own in
    let count : m.0.view.pass.seen.count ≡ c.args.count = ap (λ (p : PublisherValue). p.pass.seen.count) c.pass.view_is ∙ c.requires.count in (
      ap (λ (p : PublisherValue). p.of.table) c.pass.view_is ∙ ap (λ (i : LogId). i.table) c.requires.fits.table ∙ sym (ap (λ (l : LogValue). l.table.table) c.self.view_is),
      (let w = c.self.inside.memory.wide in let low = c.place_of.ensures.low in omega arith),
      subst (λ (i : ℕ). Allows (LogMemoryRuled t) slots id m i (λ n. n) (LoadsTail m)) (ap tail_place count ∙ sym c.place_of.ensures.is) (c.steps_keep.ensures.load_tail t id m c.pass.invariant.idle parts own slots),
    )
