use Rattle.receiver.proofs.receiver_core.ReceiverCore.see.Goals as goal

pub invariant_of-self : goal.invariant_of-self
invariant_of-self c = record { count = c.self.invariant.count; width = c.self.invariant.width; seats = c.self.invariant.seats; unmet = c.self.invariant.unmet; faults = c.self.invariant.faults }
