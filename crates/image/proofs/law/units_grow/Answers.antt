use Rattle.image.proofs.Units.{more_units_reach_further, storing_adds_units}
use Rattle.image.proofs.law.units_grow.Goals as goal

pub returns-clause-added : goal.returns-clause-added
returns-clause-added c = storing_adds_units

pub returns-clause-further : goal.returns-clause-further
returns-clause-further c = more_units_reach_further
