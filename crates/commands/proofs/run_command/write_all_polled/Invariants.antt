use Rattle.std.proofs.Common.{take}
use Rattle.std.specs.Prelude.{flat_map}
use Rattle.std.specs.Io.KnownBytes.{Appends}
use Rattle.commands.specs.Running.{polled_text}
use Rattle.commands.proofs.run_command.write_all_polled.Given as goal

-- the lines so far are written
abbrev pub invariant-loop-tally : goal.invariant-loop-tally
invariant-loop-tally g l = Appends (g.W.Write.contents l.fn.output) (g.W.Write.contents l.output) (flat_map (polled_text l.wanted) (take l.tally-index l.tallies))
