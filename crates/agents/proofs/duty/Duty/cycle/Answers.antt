use Rattle.std.proofs.Common.{arith}
use Rattle.agents.proofs.Cycling.{cycle_done, fault_before, fault_behind, none_came, some_came}
use Rattle.agents.proofs.Hearings.{err_is}
use Rattle.agents.proofs.duty.Duty.cycle.Goals as goal

pub returns-in_err-heard-clause-fault : goal.returns-in_err-heard-clause-fault
returns-in_err-heard-clause-fault g c =
    let e = c.from_residual in
    fault_before g.P.Party.hears g.P.Party.ticks c.args.now _ _ _ _ _ _ e.result (err_is e.result _ e.ensures.1) c.in_err-heard.ensures.hears

pub returns-in_err-sent-clause-fault : goal.returns-in_err-sent-clause-fault
returns-in_err-sent-clause-fault g c =
    let h = c.in_ok-heard.ensures in
    let e = c.from_residual-in_err-sent in
    fault_behind g.P.Party.hears g.P.Party.ticks c.args.now _ _ _ _ _ _ _ _ _ _ e.result (err_is e.result _ e.ensures.1) h.still_tells h.counts h.hears c.in_err-sent.ensures.nones c.in_err-sent.ensures.ticks

pub returns-then-heard-gt0-clause-cycle : goal.returns-then-heard-gt0-clause-cycle
returns-then-heard-gt0-clause-cycle g c =
    let h = c.in_ok-heard.ensures in
    let k = c.in_ok-sent.ensures in
    cycle_done g.P.Party.hears g.P.Party.ticks c.args.now _ _ _ _ _ _ _ _ _ _ _ h.still_tells h.hears k.nones k.ticks (some_came h.hears.heard k.ticks.given _ h.hears.number (omega (arith, c.if-heard-gt0.true)))

pub returns-else-heard-gt0-clause-cycle : goal.returns-else-heard-gt0-clause-cycle
returns-else-heard-gt0-clause-cycle g c =
    let h = c.in_ok-heard.ensures in
    let k = c.in_ok-sent.ensures in
    cycle_done g.P.Party.hears g.P.Party.ticks c.args.now _ _ _ _ _ _ _ _ _ _ _ h.still_tells h.hears k.nones k.ticks (none_came h.hears.heard k.ticks.given _ _ h.hears.number (omega (arith, c.if-heard-gt0.false)) k.ticks.busy)
