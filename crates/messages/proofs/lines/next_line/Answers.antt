use Rattle.std.proofs.Common.{rules}
use Rattle.messages.proofs.Shown.{at_fault, line_broken, line_ended}
use Rattle.messages.proofs.lines.next_line.Goals as goal

pub returns-in_err-take_shown-clause-fault : goal.returns-in_err-take_shown-clause-fault
returns-in_err-take_shown-clause-fault g c =
    let i = c.loop-turn.invariant in
    at_fault c.from_residual.result _ _ c.from_residual.ensures.1 (line_broken _ _ _ _ _ _ _ _ i.taken i.one_line i.short c.in_err-take_shown.ensures.fault)

pub returns-in-End-clause-gives : goal.returns-in-End-clause-gives
returns-in-End-clause-gives g c =
    let i = c.loop-turn.invariant in
    let h = rw c.in-End.is at c.in_ok-take_shown.ensures.takes in
    line_ended _ _ _ _ _ _ c.is_empty.result (λ no. search rules) (λ yes. search rules) i.taken i.one_line i.short h.0 h.1 h.2
