use Rattle.std.proofs.Common.{ℕ, ◌*◌, ◌/◌, ap}
use Rattle.log_memory.specs.Places.{units}
use Rattle.log_memory.proofs.opening.units_of.Goals as goal

pub returns-clause-is : goal.returns-clause-is
unfolding units
returns-clause-is c = ap (λ (n : ℕ). 3 * (n / 32)) c.term_length.ensures.value
