use Rattle.std.proofs.Common.{◌≡◌, ◌-◌, ◌*◌, ◌≤◌}
use Rattle.image.specs.Handles.{stored_by}
use Rattle.image.specs.Runs.{IsRun}
use Rattle.image.proofs.inserter.inserting.run_end.Given as goal

abbrev pub invariant-loop-end : goal.invariant-loop-end
invariant-loop-end l = record {
  same : l.words ≡ l.fn.words;
  run : IsRun (stored_by l.fn.words) (32 * l.fn.words.key.join) l.end;
  from : l.fn.from ≤ l.end;
  within : l.end ≤ l.high_water;
}

abbrev pub decreases-loop-end : goal.decreases-loop-end
decreases-loop-end l = l.high_water - l.end
