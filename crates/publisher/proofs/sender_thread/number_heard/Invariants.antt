use Rattle.std.proofs.Common.{◌≡◌, ◌++◌, drop, map, take}
use Rattle.publisher.specs.Destinations.{numbered_from, unnumbered}
use Rattle.publisher.proofs.sender_thread.number_heard.Given as goal

-- those behind are numbered from the next number on
abbrev pub invariant-loop-destination : goal.invariant-loop-destination
invariant-loop-destination g l = record {
  kept : map unnumbered (take l.destination-index l.destinations) ≡ map unnumbered (take l.destination-index l.fn.destinations);
  numbered : numbered_from 0 l.fn.destinations ≡ take l.destination-index l.destinations ++ numbered_from l.next (drop l.destination-index l.fn.destinations);
  rest : drop l.destination-index l.destinations ≡ drop l.destination-index l.fn.destinations;
}
