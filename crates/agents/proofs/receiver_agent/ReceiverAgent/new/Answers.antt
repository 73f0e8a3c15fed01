use Rattle.std.proofs.Common.{subst, sym}
use Rattle.agents.specs.Publishing.{HasReached}
use Rattle.agents.proofs.receiver_agent.ReceiverAgent.new.Goals as goal

pub invariant_of-result : goal.invariant_of-result
invariant_of-result g c = record { named = c.requires.counters; reached = subst (λ o. HasReached o c.args.writer.last) (sym c.requires.image) c.requires.nothing }
