use Rattle.std.proofs.Common.{◌<◌, length, take}
use Rattle.std.specs.Io.KnownBytes.{Appends}
use Rattle.messages.proofs.writing.write_bytes.Given as goal

-- so many are written, and some are left
abbrev pub invariant-loop-turn : goal.invariant-loop-turn
invariant-loop-turn g l = record {
  left : l.at < length l.bytes;
  written : Appends (g.W.Write.contents l.fn.output) (g.W.Write.contents l.output) (take l.at l.bytes);
}
