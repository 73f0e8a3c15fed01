use Rattle.std.proofs.Common.{◌≡◌, ◌++◌, map, take}
use Rattle.script_meaning.specs.LineContents.{OfReceiver}
use Rattle.simulation.specs.Lines.{line_contents}
use Rattle.simulation.proofs.handlers.tell.Given as goal

-- the outcomes so far are told
abbrev pub invariant-loop-outcome : goal.invariant-loop-outcome
invariant-loop-outcome l = line_contents l.lines.items ≡ line_contents l.initial.lines.items ++ map OfReceiver (take l.outcome-index l.outcomes)
