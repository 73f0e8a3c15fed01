use Rattle.std.proofs.Common.{◌≡◌, drop, map, take}
use Rattle.publisher.specs.Seeing.{begun}
use Rattle.publisher.proofs.destination.begin_all.Given as goal

abbrev pub invariant-loop-destination : goal.invariant-loop-destination
invariant-loop-destination g l = record { done : take l.destination-index l.destinations ≡ map (begun l.position) (take l.destination-index l.fn.destinations); rest : drop l.destination-index l.destinations ≡ drop l.destination-index l.fn.destinations }
