use Rattle.std.proofs.Common.{◌≡◌, ◌+◌, true, None, length}
use Rattle.script.specs.Meaning.{contents_of, opened}
use Rattle.script.specs.Pieces.{lines}
use Rattle.script.specs.Rests.{lines_left}
use Rattle.script.specs.Reading.{are_none, with_front, script_from}
use Rattle.script.proofs.read.read_lines.Given as goal

-- the commands so far, and what the lines left say
abbrev pub invariant-loop-line : goal.invariant-loop-line
invariant-loop-line l = record {
  says : with_front (contents_of l.commands.items) (script_from l.number (are_none (contents_of l.commands.items)) (opened l.log) (lines_left l.line-iterator)) ≡ script_from 1 true None (lines l.bytes);
  count : l.number + length (lines_left l.line-iterator) ≡ 1 + length (lines l.bytes);
}
