use Rattle.std.proofs.Common.{refl}
use Rattle.receiver.specs.contracts.receiver_core.ReceiverCore.{the_view}
use Rattle.receiver.proofs.Meeting.{core_on, same_sees}
use Rattle.receiver.proofs.receiver_core.ReceiverCore.miss.Goals as goal

pub invariant_of-self-in_default : goal.invariant_of-self-in_default
invariant_of-self-in_default c = core_on (the_view c.self.inside) _ _ c.find_gap-gap.new.self c.self.invariant c.in-Some.is (same_sees _ _ c.find_gap-gap.ensures.same) refl refl refl refl refl

pub invariant_of-self-in-Some : goal.invariant_of-self-in-Some
invariant_of-self-in-Some c = core_on (the_view c.self.inside) _ _ c.find_gap-gap.new.self c.self.invariant c.in-Some.is (same_sees _ _ c.find_gap-gap.ensures.same) refl refl refl refl refl
