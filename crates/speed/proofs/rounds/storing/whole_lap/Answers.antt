use Rattle.std.proofs.Common.{rules, ◌+◌, subst, sym, take}
use Rattle.std.specs.Prelude.{map}
use Rattle.speed.specs.Laps.{span_of}
use Rattle.speed.specs.Rows.{row_span}
use Rattle.speed.proofs.Laps.{IsSoFar, from_first, one_more}
use Rattle.speed.proofs.rounds.storing.whole_lap.Goals as goal

pub loop-row-init : goal.loop-row-init
loop-row-init c = from_first row_span c.args.rows.now c.in-Some.first.now (search rules) (search rules)

pub loop-row-preserved : goal.loop-row-preserved
loop-row-preserved c = subst (IsSoFar (map row_span c.args.rows.now) (map row_span (take (c.loop-row.row-index + 1) c.args.rows.now))) (sym c.joined-whole.ensures) (one_more row_span c.args.rows.now c.loop-row.row-index c.row-item.result (span_of c.loop-row.whole) c.loop-row-test.true c.row-item.is c.loop-row.invariant)
