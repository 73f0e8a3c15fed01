use Rattle.std.proofs.Common.{map, take}
use Rattle.speed.specs.Laps.{span_of}
use Rattle.speed.specs.Rows.{row_span}
use Rattle.speed.proofs.Laps.{IsSoFar}
use Rattle.speed.proofs.rounds.storing.whole_lap.Given as goal

abbrev pub invariant-loop-row : goal.invariant-loop-row
invariant-loop-row l = IsSoFar (map row_span l.rows) (map row_span (take l.row-index l.rows)) (span_of l.whole)
