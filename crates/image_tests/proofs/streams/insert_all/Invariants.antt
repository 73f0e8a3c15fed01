use Rattle.std.proofs.Common.{◌≡◌, ◌%◌, ◌≤◌}
use Rattle.image.specs.Rebuilding.{IsInserterOf}
use Rattle.image_tests.proofs.streams.insert_all.Given as goal

abbrev pub invariant-loop : goal.invariant-loop
invariant-loop l = IsInserterOf l.image l.inserter × (l.start % 32 ≡ 0) × (l.start ≤ 12002880)
