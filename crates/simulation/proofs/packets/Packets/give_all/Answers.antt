use Rattle.std.proofs.Common.{◌≡◌, Some, rules}
use Rattle.std.specs.Prelude.{slice_get}
use Rattle.simulation.specs.Lines.{line_contents}
use Rattle.simulation.proofs.PacketNumbers.{given_next}
use Rattle.simulation.proofs.packets.Packets.give_all.Goals as goal

pub loop-index-preserved : goal.loop-index-preserved
loop-index-preserved c =
    let all = c.args.outbox.now.datagrams in
    let found : slice_get all c.loop-index.index ≡ Some c.in-Some.datagram.now = search rules in
    given_next c.args.self.now c.loop-index.self c.give.new.self all (line_contents c.args.lines.now.items) (line_contents c.loop-index.lines.items) (line_contents c.give.new.lines.items) c.loop-index.index c.in-Some.datagram.now c.loop-index.invariant found c.in_ok-give.ensures.given c.in_ok-give.ensures.line
