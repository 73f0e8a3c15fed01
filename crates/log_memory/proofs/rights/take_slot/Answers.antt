use Rattle.std.proofs.Common.{ap, ◌∙◌}
use Rattle.atomic_table.specs.Table.{turned}
use Rattle.log_memory.proofs.rights.take_slot.Goals as goal

pub returns-clause-turned : goal.returns-clause-turned
returns-clause-turned c = (c.none.result, ap (λ m. m.1) c.turn.ensures.2 ∙ ap (λ m. turned m.1) c.exchange-access.ensures.3)
