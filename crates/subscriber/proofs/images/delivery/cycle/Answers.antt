use Rattle.std.proofs.Common.{inr, refl}
use Rattle.std.proofs.lemmas.Result.{err_from_is_err_and}
use Rattle.subscriber.proofs.Parties.{subscribers_cycle, subscribers_fault}
use Rattle.subscriber.proofs.images.delivery.cycle.Goals as goal

pub returns-in_err-busy-clause-fault : goal.returns-in_err-busy-clause-fault
returns-in_err-busy-clause-fault g c =
    let p = err_from_is_err_and c.from_residual-in_err-busy.result c.from_residual-in_err-busy.ensures.1 in
    rw (p.1, p.2) (inr (record {
      middle = c.write_polled.new.subscriber;
      number = c.in_ok-messages.messages;
      why = _;
      delivers = c.in_ok-messages.ensures.delivers;
      named = refl;
      fails = subscribers_fault _ _ _ _ _ _ _ c.in_err-busy.ensures.fault;
    }))

pub returns-clause-done : goal.returns-clause-done
returns-clause-done g c =
    let p = subscribers_cycle _ _ _ _ _ _ _ c.in_ok-busy.ensures.cycle in
    record {
      writes = record { middle = c.write_polled.new.subscriber; delivers = c.in_ok-messages.ensures.delivers; cycle = p.0 };
      notes = record { notes = p.1.notes; hears = p.1.hears; opening = p.1.opening; stream = p.1.stream };
    }
