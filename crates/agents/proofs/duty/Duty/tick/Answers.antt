use Rattle.agents.proofs.Hearings.{any_are_some, ticked_in_part, ticked_whole}
use Rattle.agents.proofs.duty.Duty.tick.Goals as goal

pub returns-in_err-send_all-clause-ticks : goal.returns-in_err-send_all-clause-ticks
returns-in_err-send_all-clause-ticks g c =
    let s = c.in_err-send_all.ensures in
    rw (← c.self.view_is) (ticked_in_part g.P.Party.ticks c.args.now _ _ _ _ _ _ _ c.from_residual.result c.from_residual.ensures.0 c.tick.ensures.ticks s.received s.sends)

pub returns-clause-ticks : goal.returns-clause-ticks
returns-clause-ticks g c =
    let s = c.in_ok-send_all.ensures in
    rw (← c.self.view_is) (ticked_whole g.P.Party.ticks c.args.now _ _ _ _ _ _ _ _ c.tick.ensures.ticks s.received s.sends (any_are_some c.tick.new.outbox.datagrams c.len.result c.len.ensures.value))
