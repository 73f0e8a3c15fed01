use Rattle.std.proofs.Common.{subst}
use Rattle.cores.specs.Senders.{SenderValue}
use Rattle.cores.specs.Sending.{StepsOn}
use Rattle.cores.proofs.sending.SenderPass.step.Goals as goal

pub returns : goal.returns
returns c =
    let q : SenderValue = record { core = c.step-answer.new.self; left = c.step-answer.new.outbox.datagrams } in
    subst (λ (p : SenderValue). StepsOn p c.args.now c.args.event c.step-answer.result q) c.self.view_is (record { steps = c.step-answer.ensures.step; log = c.step-answer.ensures.leaves.0 })
