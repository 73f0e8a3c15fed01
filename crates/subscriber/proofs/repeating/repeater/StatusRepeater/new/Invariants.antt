use Rattle.std.proofs.Common.{◌≡◌}
use Rattle.std.specs.Prelude.{replicate}
use Rattle.subscriber.specs.Repeats.{holding_none}
use Rattle.subscriber.proofs.repeating.repeater.StatusRepeater.new.Given as goal

abbrev pub invariant-loop-place : goal.invariant-loop-place
invariant-loop-place l = l.repeaters.items ≡ replicate l._place holding_none
