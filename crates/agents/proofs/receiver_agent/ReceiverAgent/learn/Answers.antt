use Rattle.agents.proofs.Reaching.{learnt_reached}
use Rattle.agents.proofs.receiver_agent.ReceiverAgent.learn.Goals as goal

pub invariant_of-self : goal.invariant_of-self
invariant_of-self g c = record { named = c.self.invariant.named; reached = learnt_reached _ _ _ _ _ c.learn.ensures.learnt c.self.invariant.reached }
