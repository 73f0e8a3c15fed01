use Rattle.position.proofs.Numbers.{whole_power}
use Rattle.position.proofs.geometry.Geometry.term_length.Goals as goal

pub returns-clause-whole : goal.returns-clause-whole
returns-clause-whole c = whole_power c.self.inside.term_length c.self.invariant.term.power c.self.invariant.term.least
