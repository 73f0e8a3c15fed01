use Rattle.std.proofs.Common.{◌≡◌, ◌≤◌, map}
use Rattle.one_hand.specs.Readers.{below}
use Rattle.shared_log.specs.Keepers.{flag_of}
use Rattle.one_hand.proofs.log_hand.consumer.place_of.Given as goal

abbrev pub invariant-loop-other : goal.invariant-loop-other
invariant-loop-other l = (l.place ≡ below (map flag_of l.fn.there) l.other) × (l.place ≤ l.other)
