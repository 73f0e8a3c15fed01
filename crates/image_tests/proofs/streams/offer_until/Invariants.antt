use Rattle.image.specs.Rebuilding.{IsInserterOf}
use Rattle.image_tests.proofs.streams.offer_until.Given as goal

abbrev pub invariant-loop : goal.invariant-loop
invariant-loop l = IsInserterOf l.image l.inserter
