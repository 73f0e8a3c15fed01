use Rattle.std.proofs.Common.{◌≡◌, drop, length, map, take}
use Rattle.cores.specs.Numbers.{of_outcome}
use Rattle.cores.proofs.rooms.put_outcomes.Given as goal

-- the first numbers are written, and the rest stands as it did
abbrev pub invariant-loop-index : goal.invariant-loop-index
invariant-loop-index l = record {
  done : take l.index l.room ≡ map of_outcome (take l.index l.outcomes);
  rest : drop l.index l.room ≡ drop l.index l.fn.room;
  long : length l.room ≡ length l.fn.room;
}
