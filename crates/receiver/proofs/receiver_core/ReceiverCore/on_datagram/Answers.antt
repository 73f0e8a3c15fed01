use Rattle.std.proofs.Common.{◌∙◌, ap}
use Rattle.frames.specs.FaultCounts.{counted_at, place_of}
use Rattle.receiver.specs.Representing.{Core}
use Rattle.receiver.proofs.Meeting.{refused_all}
use Rattle.receiver.proofs.receiver_core.ReceiverCore.on_datagram.Goals as goal

pub returns-in_ok-outcomes-in-Err-clause-heard : goal.returns-in_ok-outcomes-in-Err-clause-heard
returns-in_ok-outcomes-in-Err-clause-heard c =
    let error = c.in-Err.error in
    refused_all c.in_ok-outcomes-in-Err.outcomes.items c.args.self.now c.count.new.self c.args.now c.args.bytes.now error
    (c.count.ensures ∙ ap (λ (v : Core). record v { faults = counted_at (place_of error) v.faults }) c.see-in-Err.ensures)
    c.in-Err.ensures.fault c.in_ok-outcomes-in-Err.ensures
