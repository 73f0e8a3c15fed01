use Rattle.std.proofs.Common.{refl}
use Rattle.receiver.specs.Receiving.{TakesDatagram}
use Rattle.receiver.proofs.Alone.{SitsAgain, hears_sees, may_sit, takes_alone}
use Rattle.receiver.proofs.Seated.{core_step, hears_keeps}
use Rattle.receiver.proofs.subscriber.Subscriber.on_datagram.Goals as goal

pub sit-requires-clause-may : goal.sit-requires-clause-may
sit-requires-clause-may c =
    let v = c.self.inside.core in let m = c.on_datagram.new.self in
    may_sit v.image m.image c.self.inside.reader c.self.invariant.1 (hears_sees v m c.args.now c.args.bytes.now c.in_ok-outcomes.outcomes.items c.in_ok-outcomes.ensures.heard)

again : (c : goal.After-sit) → SitsAgain c.self.inside.core c.on_datagram.new.self c.sit.new.self c.self.inside.reader
again c = record {
  seated = c.self.invariant.1;
  sees = hears_sees c.self.inside.core c.on_datagram.new.self c.args.now c.args.bytes.now c.in_ok-outcomes.outcomes.items c.in_ok-outcomes.ensures.heard;
  stays = c.sit.ensures.stays;
  sits = c.sit.ensures.sits;
}

pub returns-clause-heard : goal.returns-clause-heard
returns-clause-heard c =
    let outs = c.in_ok-outcomes.outcomes.items in
    rw (← c.self.view_is)
    (core_step _ _ (λ r s. TakesDatagram r c.args.now c.args.bytes.now outs s) (λ r s h k. hears_keeps c.self.inside.joiner.assembler r c.args.now c.args.bytes.now outs s h k) refl
    (takes_alone c.self.inside.core c.on_datagram.new.self c.sit.new.self c.self.inside.reader c.args.now c.args.bytes.now outs (again c) c.in_ok-outcomes.ensures.heard))
