use Rattle.shared_log.proofs.Sweeping.{SweepsSome}
use Rattle.shared_log.proofs.keeper.sweep.Given as goal

abbrev pub invariant-loop-number : goal.invariant-loop-number
invariant-loop-number l = SweepsSome l.log l.fn.keeper l.number l.least l.keeper
