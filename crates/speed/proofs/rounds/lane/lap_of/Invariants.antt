use Rattle.std.proofs.Common.{map, take}
use Rattle.speed.specs.Laps.{span_of}
use Rattle.speed.specs.Rounds.{lane_span}
use Rattle.speed.proofs.Laps.{IsSoFar}
use Rattle.speed.proofs.rounds.lane.lap_of.Given as goal

abbrev pub invariant-loop-lane : goal.invariant-loop-lane
invariant-loop-lane l = IsSoFar (map lane_span l.lanes) (map lane_span (take l.lane-index l.lanes)) (span_of l.whole)
