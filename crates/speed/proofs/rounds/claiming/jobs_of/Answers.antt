use Rattle.std.proofs.Common.{subst, sym, ◌∙◌}
use Rattle.std.specs.List.{AllByRecursion}
use Rattle.shared_log.specs.Steps.Handles.{IsOf}
use Rattle.claims.specs.Holdings.{IsResting}
use Rattle.speed.proofs.Lanes.{job_parts_are, jobs_are, of_lanes, resting_lanes}
use Rattle.speed.proofs.rounds.claiming.jobs_of.Goals as goal

pub with_blocks-requires-clause-of : goal.with_blocks-requires-clause-of
with_blocks-requires-clause-of c = subst (AllByRecursion (IsOf c.args.log.now)) (sym c.taken_apart-publishers.ensures.publishers) (of_lanes c.args.log.now c.args.lanes c.requires.lanes)

pub with_blocks-requires-clause-rest : goal.with_blocks-requires-clause-rest
with_blocks-requires-clause-rest c = subst (AllByRecursion IsResting) (sym c.taken_apart-publishers.ensures.publishers) (resting_lanes c.args.log.now c.args.lanes c.requires.lanes)

pub returns-clause-jobs : goal.returns-clause-jobs
returns-clause-jobs c = jobs_are c.args.log.now c.with_parts.result c.args.lanes (c.with_parts.ensures ∙ c.in_ok-claimants.ensures ∙ c.taken_apart-publishers.ensures.publishers) c.requires.lanes c.requires.none

pub returns-clause-parts : goal.returns-clause-parts
returns-clause-parts c = job_parts_are c.with_parts.result c.args.lanes (c.with_parts.ensures ∙ c.in_ok-claimants.ensures ∙ c.taken_apart-publishers.ensures.publishers)
