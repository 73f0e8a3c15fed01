use Rattle.std.proofs.Common.{ap, sym, ◌∙◌, arith}
use Rattle.log_memory.specs.Steps.{Mine}
use Rattle.shared_log.specs.Steps.Handles.{LogId, LogValue, PublisherValue}
use Rattle.shared_log.proofs.steps.log.Log.count.Goals as goal

pub load-requires : goal.load-requires
load-requires c =
    let m : Mine = c.pass.inside.seat.me in let table = c.self.inside.memory.table.shared in
    (ap (λ (p : PublisherValue). p.of.table) c.pass.view_is ∙ ap (λ (i : LogId). i.table) c.requires.table ∙ sym (ap (λ (l : LogValue). l.table.table) c.self.view_is), (let w = c.self.inside.memory.wide in omega arith), c.steps_keep.ensures.load_count table.key c.pass.inside.seat.id m c.pass.invariant.idle table.table_id.slots)
