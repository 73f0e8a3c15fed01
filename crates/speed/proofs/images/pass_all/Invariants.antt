use Rattle.std.proofs.Common.{◌≤◌, length}
use Rattle.speed.proofs.images.pass_all.Given as goal

abbrev pub invariant-loop : goal.invariant-loop
invariant-loop l = 65472 ≤ length l.block
