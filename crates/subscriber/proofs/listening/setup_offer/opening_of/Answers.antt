use Rattle.std.proofs.Common.{ℕ, subst}
use Rattle.frames.specs.Frames.{setup_of}
use Rattle.receiver.specs.SetupFaults.{fault_of}
use Rattle.theory.specs.Setup.{HasSetupFault}
use Rattle.subscriber.proofs.Openings.{refused}
use Rattle.subscriber.proofs.listening.setup_offer.opening_of.Goals as goal

pub returns-in-Err-clause-none : goal.returns-in-Err-clause-none
returns-in-Err-clause-none c =
    let f = setup_of c.args.setup.now in
    let fault = c.in-Err.field-0 in
    refused c.args.plan.now f fault (subst (λ (w : ℕ). HasSetupFault f w (fault_of fault)) c.window_in.ensures c.in-Err.ensures.fault)
