use Rattle.std.proofs.Common.{List, ℕ, refl, subst}
use Rattle.frames.specs.Frames.{setup_of}
use Rattle.receiver.specs.Receiving.{TakesDatagram}
use Rattle.subscriber.specs.Meetings.{invited}
use Rattle.subscriber.proofs.listening.setup_offer.opened.Goals as goal

pub returns : goal.returns
returns c =
    let first = invited c.args.plan.now c.args.number c.args.share (setup_of c.args.setup.now) in
    let begun = c.new-subscriber.ensures.shown first c.invited-core.ensures.shown refl in
    let after = c.in_ok-on_datagram.ensures.heard first begun in
    let outcomes = c.in_ok-on_datagram.field-0.items in
    record {
      receiver = after.0;
      outcomes = outcomes;
      takes = subst (λ (bytes : List ℕ). TakesDatagram first c.args.now bytes outcomes after.0) c.datagram_of-datagram.ensures after.1;
      shown = after.2;
    }
