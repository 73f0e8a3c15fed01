use Rattle.std.proofs.Common.{ap, length, arith}
use Rattle.run.specs.Outcomes.{size_of}
use Rattle.run.proofs.Closing.{all_received, can_close}
use Rattle.run.proofs.Receivers.{received_many, told_polled}
use Rattle.run.proofs.planned_run.run_over.Goals as goal

pub left-requires-clause-closes : goal.left-requires-clause-closes
left-requires-clause-closes g c =
    let plan = c.args.plan.now in
    can_close g.D.Datagrams.device g.D.Datagrams.tells plan.geometry (size_of plan) c.in_ok-state.field-0 _ _ c.in_ok-state.ensures.begins c.in_ok-returned.ensures c.into_log.ensures

pub left-requires-clause-many : goal.left-requires-clause-many
left-requires-clause-many g c =
    let plan = c.args.plan.now in
    let all = all_received g.D.Datagrams.device g.D.Datagrams.tells plan c.in_ok-state.field-0 c.in_ok-returned.returned c.in_ok-state.ensures.begins c.in_ok-returned.ensures in
    let many = received_many g.D.Datagrams.device g.D.Datagrams.tells plan.geometry (size_of plan) 0 _ _ all in
    let were = ap length c.in_ok-state.ensures.devices in
    omega (arith, many, were, c.args.devices.1.ok.0, c.requires.replies)

pub left-requires-clause-polled : goal.left-requires-clause-polled
left-requires-clause-polled g c =
    let plan = c.args.plan.now in
    told_polled g.D.Datagrams.device g.D.Datagrams.tells plan.geometry (size_of plan) 0 _ _ (all_received g.D.Datagrams.device g.D.Datagrams.tells plan c.in_ok-state.field-0 c.in_ok-returned.returned c.in_ok-state.ensures.begins c.in_ok-returned.ensures)
