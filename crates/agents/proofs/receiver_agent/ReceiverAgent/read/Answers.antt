use Rattle.std.proofs.Common.{subst, sym}
use Rattle.counters.specs.Parties.{WriterSeen}
use Rattle.agents.specs.Publishing.{IsPublishing}
use Rattle.agents.proofs.receiver_agent.ReceiverAgent.read.Goals as goal

pub invariant_of-self : goal.invariant_of-self
invariant_of-self g c = subst (λ (w : WriterSeen). IsPublishing g.N.Named.counters c.self.inside.core w) (sym c.read_with.ensures.writer) c.self.invariant
