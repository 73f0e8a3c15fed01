use Rattle.std.proofs.Common.{◌≡◌, drop, map, take}
use Rattle.publisher.specs.Farewells.{noted, told_times}
use Rattle.publisher.proofs.two_threads.tell_each.Given as goal

abbrev pub invariant-loop-destination : goal.invariant-loop-destination
invariant-loop-destination g l = record {
  told : map noted (take l.destination-index l.destinations) ≡ map (λ w. told_times 1 l.end (noted w)) (take l.destination-index l.fn.destinations);
  rest : drop l.destination-index l.destinations ≡ drop l.destination-index l.fn.destinations;
}
