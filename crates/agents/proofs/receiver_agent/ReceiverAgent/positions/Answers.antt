use Rattle.agents.proofs.Images.{up_to}
use Rattle.agents.proofs.receiver_agent.ReceiverAgent.positions.Goals as goal

pub returns-clause-last : goal.returns-clause-last
returns-clause-last g c = rw (← c.self.view_is) (up_to c.self.inside.core.image _ _ c.positions.ensures.told c.self.invariant.reached)
