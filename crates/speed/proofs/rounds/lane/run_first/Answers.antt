use Rattle.std.proofs.Common.{◌≡◌}
use Rattle.speed.specs.Rounds.{IsLane}
use Rattle.speed.proofs.Lanes.{all_taken, first_filled, same_parts}
use Rattle.speed.proofs.rounds.lane.run_first.Goals as goal

pub run_all-requires-clause-lanes : goal.run_all-requires-clause-lanes
run_all-requires-clause-lanes g c κs within = all_taken (IsLane c.args.log.now) c.args.count c.args.lanes c.requires.lanes

pub run_all-requires-clause-none : goal.run_all-requires-clause-none
run_all-requires-clause-none g c κs within = all_taken (λ lane. lane.accepted ≡ 0) c.args.count c.args.lanes c.requires.none

pub returns-clause-lanes : goal.returns-clause-lanes
returns-clause-lanes g c = first_filled c.args.log.now c.args.count c.args.lanes c.run_all.new.lanes c.requires.lanes c.run_all.ensures.lanes

pub returns-clause-parts : goal.returns-clause-parts
returns-clause-parts g c = same_parts c.args.count c.args.lanes c.run_all.new.lanes c.run_all.ensures.parts
