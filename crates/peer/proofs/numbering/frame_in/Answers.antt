use Rattle.std.proofs.Common.{length}
use Rattle.peer.proofs.Numbered.{at_front, by_ok, no_ok}
use Rattle.peer.proofs.numbering.frame_in.Goals as goal

pub returns-in_default-clause-only : goal.returns-in_default-clause-only
returns-in_default-clause-only c = λ w spells. absurd (no_ok c.read_frame.result _ c.in_default.not-Ok (c.read_frame.ensures.only w (length c.args.datagram.now) (at_front c.args.datagram.now w spells)))

pub returns-then-size-datagram-clause-only : goal.returns-then-size-datagram-clause-only
returns-then-size-datagram-clause-only c = λ w spells.
    let both = by_ok c.read_frame.result _ (c.in-Ok.frame, c.in-Ok.size) c.in-Ok.is (c.read_frame.ensures.only w (length c.args.datagram.now) (at_front c.args.datagram.now w spells)) in
    absurd (c.if-size-datagram.true both.1)
