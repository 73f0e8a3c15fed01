use Rattle.std.proofs.Common.{rules, FitsSigned, w32, Result, Ok, Err}
use Rattle.std.specs.Prelude.{IfOk}
use Rattle.frames.specs.Frames.{setup_of}
use Rattle.receiver.specs.Receiving.{IfOurs, MeetsSetup}
use Rattle.receiver.specs.Representing.{BecomesSeen}
use Rattle.receiver.specs.declared.receiver_core.Outcome.{Outcome}
use Rattle.receiver.specs.declared.receiver_core.Outcome.TheVariants as outcomes
use Rattle.receiver.proofs.Meeting.{as_ids, not_mine, of_ours}
use Rattle.receiver.proofs.receiver_core.ReceiverCore.on_setup.Goals as goal

pub returns-then-is_mine-clause-met : goal.returns-then-is_mine-clause-met
returns-then-is_mine-clause-met c = met c.set_up.result c.set_up.ensures.met
  where
    session : FitsSigned w32 c.args.setup.now.session
    session = search rules

    stream : FitsSigned w32 c.args.setup.now.stream
    stream = search rules

    met : {E : Type 0} (out : Result Outcome E) → IfOk out (λ o. BecomesSeen c.args.self.now c.set_up.new.self (λ r s. MeetsSetup r.image r (setup_of c.args.setup.now) o s))
        → IfOk out (λ o. BecomesSeen c.args.self.now c.set_up.new.self (λ r s. IfOurs r c.args.setup.now.session c.args.setup.now.stream (MeetsSetup r.image r (setup_of c.args.setup.now) o s) o s))
    met (Ok o) m = of_ours c.args.self.now c.set_up.new.self c.args.setup.now.session c.args.setup.now.stream (λ r s. MeetsSetup r.image r (setup_of c.args.setup.now) o s) o ((as_ids c.args.self.now c.is_mine.result _ _ session stream c.is_mine.ensures).0 c.if-is_mine.true) m
    met (Err e) m = tt

pub returns-else-is_mine-clause-met : goal.returns-else-is_mine-clause-met
returns-else-is_mine-clause-met c =
    let session : FitsSigned w32 c.args.setup.now.session = search rules in
    let stream : FitsSigned w32 c.args.setup.now.stream = search rules in
    not_mine c.args.self.now c.args.setup.now.session c.args.setup.now.stream c.is_mine.result (λ r s. MeetsSetup r.image r (setup_of c.args.setup.now) outcomes.Other s) (as_ids c.args.self.now c.is_mine.result _ _ session stream c.is_mine.ensures) c.if-is_mine.false
