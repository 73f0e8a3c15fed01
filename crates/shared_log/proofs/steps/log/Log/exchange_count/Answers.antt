use Rattle.std.proofs.Common.{◌≡◌, ℕ, ◌+◌, ◌<◌, ap, sym, ◌∙◌, subst, arith}
use Rattle.log_memory.specs.Steps.{Mine}
use Rattle.shared_log.specs.Steps.Handles.{LogId, LogValue, PublisherValue}
use Rattle.shared_log.proofs.steps.log.Log.exchange_count.Goals as goal

pub compare_exchange-requires : goal.compare_exchange-requires
compare_exchange-requires c =
    let m : Mine = c.pass.inside.seat.me in let table = c.self.inside.memory.table.shared in let k : ℕ = c.from-from.result in
    let parts = subst (λ (p : PublisherValue). 0 < p.pass.right.parts) (sym c.pass.view_is) c.requires.parts in
    let begun : m.0.view.pass.seen.begun ≡ k + 1 = ap (λ (p : PublisherValue). p.pass.seen.begun) c.pass.view_is ∙ c.requires.begun ∙ ap (λ (z : ℕ). z + 1) (sym c.from-from.ensures) in (
      ap (λ (p : PublisherValue). p.of.table) c.pass.view_is ∙ ap (λ (i : LogId). i.table) c.requires.fits.table ∙ sym (ap (λ (l : LogValue). l.table.table) c.self.view_is),
      (let w = c.self.inside.memory.wide in omega arith),
      c.steps_keep.ensures.exchange_count table.key c.pass.inside.seat.id m c.pass.invariant.idle k parts begun table.table_id.slots,
    )
