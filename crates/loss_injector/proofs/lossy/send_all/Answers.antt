use Rattle.std.proofs.Common.{sym, arith}
use Rattle.std.proofs.lemmas.List.{length-map, take-map}
use Rattle.loss_injector.proofs.LossyLemmas.{stops}
use Rattle.loss_injector.proofs.lossy.send_all.Goals as goal

pub returns-in_err-send-clause-sends : goal.returns-in_err-send-clause-sends
returns-in_err-send-clause-sends g c =
    let i = c.loop-datagram.invariant in
    stops _ _ _ _ _ _ _ _ _ _ _ c.from_residual.ensures.0 i.same_failures i.same_received i.same_nones i.still_tells i.sent (sym (take-map (λ d. d.now) c.loop-datagram.datagram-index c.args.out.now)) (omega (arith, c.loop-datagram-test.true, length-map c.args.out.now (λ d. d.now))) c.in_err-send.ensures.sends
