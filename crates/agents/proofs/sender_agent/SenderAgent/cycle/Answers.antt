use Rattle.std.proofs.Common.{refl}
use Rattle.agents.proofs.Answered.{at_fault, never_ok, quiet}
use Rattle.agents.proofs.Rounds.{cycle_keeps, fault_keeps}
use Rattle.agents.proofs.sender_agent.SenderAgent.cycle.Goals as goal

pub invariant_of-self : goal.invariant_of-self
invariant_of-self g c = λ on. fault_keeps (λ r. g.R.FrameSource.source r tt) (λ r q. g.R.FrameSource.leaves r tt q tt) _ g.F.FlowControl.after_status g.F.FlowControl.reached g.F.FlowControl.has_heard g.R.FrameSource.grown g.F.FlowControl.after_tick c.args.now g.D.Datagrams.device g.D.Datagrams.tells g.D.Ways.turned _ _ _ _ _ _ c.in_err-busy.ensures.fault (c.self.invariant on)

pub returns-in_err-busy-clause-cycle : goal.returns-in_err-busy-clause-cycle
returns-in_err-busy-clause-cycle g c =
    let r = c.from_residual.result in
    let h = c.from_residual.ensures.1 in
    rw (← c.self.view_is) (record { cycle = never_ok r _ _ h; fault = at_fault r _ _ h c.in_err-busy.ensures.fault; asks = quiet r _ _ _ h (record { client = refl; same = refl }) })

pub invariant_of-self-2 : goal.invariant_of-self-2
invariant_of-self-2 g c = λ on. cycle_keeps (λ r. g.R.FrameSource.source r tt) (λ r q. g.R.FrameSource.leaves r tt q tt) _ g.F.FlowControl.after_status g.F.FlowControl.reached g.F.FlowControl.has_heard g.R.FrameSource.grown g.F.FlowControl.after_tick c.args.now g.D.Datagrams.device g.D.Datagrams.tells g.D.Ways.turned _ _ _ _ _ _ c.in_ok-busy.ensures.cycle (c.self.invariant on)

pub returns-clause-cycle : goal.returns-clause-cycle
returns-clause-cycle g c = rw (← c.self.view_is, c.ask_once.ensures.core) (record { cycle = c.in_ok-busy.ensures.cycle; fault = tt; asks = c.ask_once.ensures.asks })
