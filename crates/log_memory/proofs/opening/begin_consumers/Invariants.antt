use Rattle.log_memory.specs.Opening.{StandAt}
use Rattle.log_memory.proofs.opening.begin_consumers.Given as goal

abbrev pub invariant-loop-number : goal.invariant-loop-number
invariant-loop-number l = StandAt l.position l.fn.words.items l.number l.words.items
