use Rattle.std.proofs.Common.{◌≡◌}
use Rattle.std.specs.List.{list_any}
use Rattle.script.specs.Pieces.{lines}
use Rattle.script.specs.Rests.{lines_left}
use Rattle.script.specs.Reading.{is_log}
use Rattle.script.proofs.read.has_log.Given as goal

-- a line is there if one is left
abbrev pub invariant-loop-line : goal.invariant-loop-line
invariant-loop-line l = list_any is_log (lines_left l.line-iterator) ≡ list_any is_log (lines l.bytes)
