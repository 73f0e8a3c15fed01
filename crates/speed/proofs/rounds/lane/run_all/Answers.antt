use Rattle.std.proofs.Common.{rules, ap, sym, ◌∙◌, subst}
use Rattle.speed.specs.Rounds.{IsLane, parts_of}
use Rattle.speed.proofs.Lanes.{all_filled}
use Rattle.speed.proofs.rounds.lane.run_all.Goals as goal

pub returns-clause-lanes : goal.returns-clause-lanes
returns-clause-lanes g c =
    let each = c.for_each_mut.ensures in
    (all_filled c.args.log.now c.args.lanes.now c.for_each_mut.new.s (search rules)
    (λ k d low. let w = (each k d low).1 in (subst (IsLane c.args.log.now) w.left w.call.0, ap parts_of (sym w.left) ∙ w.call.1 ∙ ap parts_of w.argument_is))).0

pub returns-clause-parts : goal.returns-clause-parts
returns-clause-parts g c =
    let each = c.for_each_mut.ensures in
    (all_filled c.args.log.now c.args.lanes.now c.for_each_mut.new.s (search rules)
    (λ k d low. let w = (each k d low).1 in (subst (IsLane c.args.log.now) w.left w.call.0, ap parts_of (sym w.left) ∙ w.call.1 ∙ ap parts_of w.argument_is))).1
