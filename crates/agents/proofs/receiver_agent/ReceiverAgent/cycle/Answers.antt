use Rattle.std.proofs.Common.{◌∙◌, sym}
use Rattle.agents.proofs.Images.{published_on, up_to}
use Rattle.agents.proofs.Reaching.{cycle_reached, fault_reached}
use Rattle.agents.proofs.receiver_agent.ReceiverAgent.cycle.Goals as goal

pub invariant_of-self : goal.invariant_of-self
invariant_of-self g c =
    let i = c.self.invariant in
    record { named = i.named; reached = fault_reached _ c.args.now _ _ _ _ _ _ c.in_err-busy.ensures.fault i.reached }

pub publish-requires-clause-counters : goal.publish-requires-clause-counters
publish-requires-clause-counters g c = c.self.invariant.named ∙ sym c.requires.counters

pub publish-requires-clause-not_back : goal.publish-requires-clause-not_back
publish-requires-clause-not_back g c = up_to _ _ _ c.positions-told.ensures.told (cycle_reached _ c.args.now _ _ _ _ _ _ c.in_ok-busy.ensures.cycle c.self.invariant.reached)

pub returns-clause-published : goal.returns-clause-published
returns-clause-published g c = rw (← c.self.view_is) (c.positions-told.result, c.positions-told.ensures.told, c.publish.ensures.published)

pub invariant_of-self-2 : goal.invariant_of-self-2
invariant_of-self-2 g c = published_on _ _ _ _ _ c.positions-told.ensures.told c.self.invariant.named (cycle_reached _ c.args.now _ _ _ _ _ _ c.in_ok-busy.ensures.cycle c.self.invariant.reached) c.publish.ensures.published
