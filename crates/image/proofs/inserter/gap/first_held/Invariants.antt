use Rattle.std.proofs.Common.{◌≡◌, ℕ, ◌+◌, ◌-◌, ◌/◌, ◌%◌, ◌≤◌, ◌<◌}
use Rattle.theory.specs.Units.{HasUnit}
use Rattle.image.proofs.inserter.gap.first_held.Given as goal

abbrev pub invariant-loop-at : goal.invariant-loop-at
invariant-loop-at l = record {
  same : l.inserter ≡ l.fn.inserter;
  unit : l.at % 32 ≡ 0;
  from : l.start ≤ l.at;
  near : l.at < l.end + 2048;
  empty : (p : ℕ) → p % 32 ≡ 0 → l.start ≤ p → p < l.at → p < l.end → HasUnit l.fn.inserter.stored p → ⊥;
  looked : l.steps ≡ l.fn.steps + (l.at / 2048 - l.start / 2048);
}

abbrev pub decreases-loop-at : goal.decreases-loop-at
decreases-loop-at l = l.end - l.at
