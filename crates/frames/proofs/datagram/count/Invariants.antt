use Rattle.std.proofs.Common.{◌≡◌, ◌≢◌, ◌⊎◌, ◌+◌, ◌≤◌, List, [], length}
use Rattle.theory.specs.Wire.{Wire}
use Rattle.frames.specs.Datagrams.{DataThen}
use Rattle.frames.proofs.datagram.count.Given as goal

abbrev pub invariant-loop-frame : goal.invariant-loop-frame
invariant-loop-frame l = record {
  read : (before : List Wire) × DataThen l.bytes before l.rest × (length before ≡ l.frames) × ((before ≡ []) ⊎ (l.rest ≢ []));
  bound : l.frames + length l.rest ≤ length l.bytes;
}

abbrev pub decreases-loop-frame : goal.decreases-loop-frame
decreases-loop-frame l = length l.rest
