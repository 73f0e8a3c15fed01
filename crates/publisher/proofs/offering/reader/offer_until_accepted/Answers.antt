use Rattle.std.proofs.Common.{Some}
use Rattle.publisher.proofs.Offers.{after_none, at_fault, both_none, gives_up}
use Rattle.publisher.proofs.offering.reader.offer_until_accepted.Goals as goal

pub returns-in_err-end-clause-fault : goal.returns-in_err-end-clause-fault
returns-in_err-end-clause-fault g c =
    let h = c.in_err-end.ensures.fault in
    at_fault c.from_residual.result c.in_err-end.field-0.0 _ c.from_residual.ensures.1 (h.0, both_none _ _ _ c.loop-turn.invariant.1 h.1, gives_up _ _ _ _ c.loop-turn.invariant.1 h.2)

pub returns-in-Some-clause-published : goal.returns-in-Some-clause-published
returns-in-Some-clause-published g c =
    let h = rw c.in-Some.is at c.in_ok-end.ensures.published in
    after_none _ _ _ _ (Some c.in-Some.end) c.loop-turn.invariant.1 h

pub loop-turn-preserved : goal.loop-turn-preserved
loop-turn-preserved g c =
    let h = rw c.in_default.is at c.in_ok-end.ensures.published in
    (c.in_ok-end.ensures.done, both_none _ _ _ c.loop-turn.invariant.1 h)
