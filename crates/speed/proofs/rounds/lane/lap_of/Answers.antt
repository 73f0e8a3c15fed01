use Rattle.std.proofs.Common.{rules, ◌+◌, subst, sym, take}
use Rattle.std.specs.Prelude.{map}
use Rattle.speed.specs.Laps.{span_of}
use Rattle.speed.specs.Rounds.{lane_span}
use Rattle.speed.proofs.Laps.{IsSoFar, from_first, one_more}
use Rattle.speed.proofs.rounds.lane.lap_of.Goals as goal

pub loop-lane-init : goal.loop-lane-init
loop-lane-init c = from_first lane_span c.args.lanes.now c.in-Some.first.now (search rules) (search rules)

pub loop-lane-preserved : goal.loop-lane-preserved
loop-lane-preserved c = subst (IsSoFar (map lane_span c.args.lanes.now) (map lane_span (take (c.loop-lane.lane-index + 1) c.args.lanes.now))) (sym c.joined-whole.ensures) (one_more lane_span c.args.lanes.now c.loop-lane.lane-index c.lane-item.result (span_of c.loop-lane.whole) c.loop-lane-test.true c.lane-item.is c.loop-lane.invariant)
