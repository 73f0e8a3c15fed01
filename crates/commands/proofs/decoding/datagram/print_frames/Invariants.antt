use Rattle.std.proofs.Common.{◌≡◌, List, length, take, drop}
use Rattle.std.specs.List.{flat_map}
use Rattle.std.specs.Io.KnownBytes.{Appends}
use Rattle.theory.specs.Wire.{Wire, SpellsDatagram, spelling}
use Rattle.commands.specs.FrameLines.{frame_lines}
use Rattle.commands.proofs.decoding.datagram.print_frames.Given as goal

-- the frames so far are printed, and the others are left
abbrev pub invariant-loop-turn : goal.invariant-loop-turn
invariant-loop-turn g l = (frames : List Wire) → SpellsDatagram frames l.datagram → length frames ≡ l.count
    → (l.rest ≡ flat_map spelling (drop l._turn frames)) × Appends (g.W.Write.contents l.fn.output) (g.W.Write.contents l.output) (frame_lines (take l._turn frames))
