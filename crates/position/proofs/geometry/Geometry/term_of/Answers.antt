use Rattle.std.proofs.Common.{arith, ◌≡◌, ◌%◌}
use Rattle.position.proofs.Numbers.{whole_power, unit_offset}
use Rattle.position.proofs.geometry.Geometry.term_of.Goals.{then-position-max_position, else-position-max_position}
use Rattle.position.proofs.geometry.Geometry.term_of.Goals as goal

pub returns-clause-unit : goal.returns-clause-unit
returns-clause-unit c = λ unit.
    let whole : c.self.inside.term_length % 65536 ≡ 0 = whole_power c.self.inside.term_length c.self.invariant.term.power c.self.invariant.term.least in
    let inner : (c.args.position % c.self.inside.term_length) % 32 ≡ 0 = unit_offset c.args.position c.self.inside.term_length whole unit in
    elim c.if-position-max_position.branch [ then-position-max_position w ↦ grind (arith, whole) | else-position-max_position w ↦ grind (arith, inner) ]
