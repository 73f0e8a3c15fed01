use Rattle.std.proofs.Common.{take}
use Rattle.std.specs.Io.KnownBytes.{Appends}
use Rattle.simulation.specs.LineTexts.{text_of_lines}
use Rattle.simulation.specs.Lines.{line_contents}
use Rattle.commands.proofs.script_command.write_lines.Given as goal

-- the lines so far are written
abbrev pub invariant-loop-line : goal.invariant-loop-line
invariant-loop-line g l = Appends (g.W.Write.contents l.fn.output) (g.W.Write.contents l.output) (text_of_lines (line_contents (take l.line-index l.lines)))
