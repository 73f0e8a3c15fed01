use Rattle.std.proofs.Common.{take}
use Rattle.script.specs.Meaning.{contents_of}
use Rattle.simulation.specs.Runs.{Continues}
use Rattle.simulation.proofs.whole_script.answer_all.Given as goal

abbrev pub invariant-loop-command : goal.invariant-loop-command
invariant-loop-command l = Continues l.initial.simulation (contents_of (take l.command-index l.commands)) l.initial.lines.items l.lines.items l.simulation
