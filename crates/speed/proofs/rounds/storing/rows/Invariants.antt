use Rattle.std.proofs.Common.{◌≡◌, map}
use Rattle.std.specs.Prelude.{replicate}
use Rattle.speed.specs.Rows.{row_length}
use Rattle.speed.proofs.rounds.storing.rows.Given as goal

abbrev pub invariant-loop : goal.invariant-loop
invariant-loop l = map row_length l.rows.items ≡ replicate l.counter l.length
