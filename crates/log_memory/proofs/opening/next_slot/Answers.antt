use Rattle.std.proofs.Common.{◌+◌, ap, sym, ◌∙◌, subst}
use Rattle.region.specs.declared.access.WriteAccess.{WriteAccess}
use Rattle.log_memory.specs.Opening.{IsLeft}
use Rattle.log_memory.proofs.Openings.{others_left, unit_of_left}
use Rattle.log_memory.proofs.opening.next_slot.Goals as goal

pub returns-then-slot-eq0-clause-left : goal.returns-then-slot-eq0-clause-left
returns-then-slot-eq0-clause-left c = (ap (λ (w : WriteAccess). w.identity) c.split_at-unit.ensures.back, subst (IsLeft c.args.units (c.args.slot + 1)) (sym c.split_at-unit.ensures.back) (others_left c.args.units c.args.slot c.args.left c.requires.left c.requires.inside c.if-slot-eq0.true))

pub returns-then-slot-eq0-clause-unit : goal.returns-then-slot-eq0-clause-unit
returns-then-slot-eq0-clause-unit c first = unit_of_left c.args.units c.args.slot c.args.left c.requires.left c.requires.inside c.if-slot-eq0.true c.of_write.result (c.of_write.ensures.0 ∙ c.split_at-unit.ensures.front)
