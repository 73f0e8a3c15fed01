use Rattle.receiver.proofs.Meeting.{passes_by}
use Rattle.receiver.proofs.receiver_core.ReceiverCore.on_frame.Goals as goal

pub returns-in-Nak-clause-met : goal.returns-in-Nak-clause-met
returns-in-Nak-clause-met c = rw c.in-Nak.is (passes_by c.args.self.now)

pub returns-in-Status-clause-met : goal.returns-in-Status-clause-met
returns-in-Status-clause-met c = rw c.in-Status.is (passes_by c.args.self.now)
