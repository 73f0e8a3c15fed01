use Rattle.std.proofs.Common.{◌≡◌, map, take}
use Rattle.run.specs.Outcomes.{told_of}
use Rattle.run.proofs.planned_run.told.Given as goal

abbrev pub invariant-loop-one : goal.invariant-loop-one
invariant-loop-one g l = l.told.items ≡ map told_of (take l.one-index l.received)
