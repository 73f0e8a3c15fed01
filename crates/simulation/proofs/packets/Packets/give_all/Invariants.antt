use Rattle.simulation.specs.Lines.{line_contents}
use Rattle.simulation.proofs.PacketNumbers.{Given}
use Rattle.simulation.proofs.packets.Packets.give_all.Given as goal

-- the datagrams so far have their numbers
abbrev pub invariant-loop-index : goal.invariant-loop-index
invariant-loop-index l = Given l.initial.self l.self l.outbox.datagrams (line_contents l.initial.lines.items) (line_contents l.lines.items) l.index
