use Rattle.std.proofs.Common.{◌≡◌, ◌%◌, ◌≤◌, length}
use Rattle.image.specs.Handles.{IsReaderOf}
use Rattle.image_tests.proofs.streams.read_all.Given as goal

abbrev pub invariant-loop : goal.invariant-loop
invariant-loop l = IsReaderOf l.image l.reader × (65472 ≤ length l.block) × (l.at % 32 ≡ 0)
