use Rattle.std.proofs.Common.{ℕ, subst}
use Rattle.frames.specs.Frames.{setup_of}
use Rattle.receiver.specs.SetupFaults.{fault_of}
use Rattle.theory.specs.Setup.{HasSetupFault, OpensAt}
use Rattle.subscriber.proofs.Openings.{never}
use Rattle.subscriber.proofs.listening.untaken.opens_some.Goals as goal

pub returns-in-Ok : goal.returns-in-Ok
returns-in-Ok c =
    let f = setup_of c.args.setup.now in
    let r = c.in-Ok.field-0 in
    let opens : OpensAt f _ r.0 r.1 = subst (λ (w : ℕ). OpensAt f w r.0 r.1) c.window_in.ensures c.in-Ok.ensures.opens in
    (λ so. record { ongoing = c.is_ongoing.ensures.0 so; shape = (r.0, r.1, opens) }, λ o. c.is_ongoing.ensures.1 o.ongoing)

pub returns-in-Err : goal.returns-in-Err
returns-in-Err c =
    let f = setup_of c.args.setup.now in
    let fault = c.in-Err.field-0 in
    (λ so. absurd (cc), λ o. absurd (never f _ o.shape.0 o.shape.1 fault (subst (λ (w : ℕ). HasSetupFault f w (fault_of fault)) c.window_in.ensures c.in-Err.ensures.fault) o.shape.2))
