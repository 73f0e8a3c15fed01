use Rattle.speed.specs.Figures.{ByTurns}
use Rattle.speed.proofs.sampling.measure.Given as goal

abbrev pub invariant-loop : goal.invariant-loop
invariant-loop g l = ByTurns l.all
