use Rattle.std.proofs.Common.{◌∙◌, ap, refl}
use Rattle.receiver.specs.Representing.{Core}
use Rattle.receiver.proofs.Rooms.{taken_count}
use Rattle.receiver.specs.contracts.receiver_core.ReceiverCore.{the_view}
use Rattle.receiver.proofs.Meeting.{core_left}
use Rattle.receiver.proofs.receiver_core.ReceiverCore.take_readers.Goals as goal

pub invariant_of-self-2 : goal.invariant_of-self-2
invariant_of-self-2 c = core_left (the_view c.self.inside) _ _ c.take_readers.new.self c.self.invariant c.in-Some.is c.take_readers.ensures.stays refl refl refl refl refl

pub returns-clause-count : goal.returns-clause-count
returns-clause-count c =
    let seats = c.self.invariant.seats c.in-Some.image c.in-Some.is in
    taken_count c.take_readers.result c.in-Some.image c.take_readers.new.self c.args.self.now.consumers c.take_readers.ensures.taken (seats.0 ∙ ap (λ (v : Core). v.consumers) c.self.view_is)
