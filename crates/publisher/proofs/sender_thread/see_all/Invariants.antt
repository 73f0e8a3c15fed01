use Rattle.std.proofs.Common.{◌≡◌, drop, map, take}
use Rattle.publisher.specs.Seeing.{seen_along}
use Rattle.publisher.proofs.sender_thread.see_all.Given as goal

abbrev pub invariant-loop-destination : goal.invariant-loop-destination
invariant-loop-destination g l = record { done : take l.destination-index l.destinations ≡ map (seen_along l.end l.linger l.now) (take l.destination-index l.fn.destinations); rest : drop l.destination-index l.destinations ≡ drop l.destination-index l.fn.destinations }
