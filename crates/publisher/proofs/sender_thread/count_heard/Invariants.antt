use Rattle.std.proofs.Common.{◌≡◌, ◌≤◌, take}
use Rattle.publisher.specs.Destinations.{heard_count}
use Rattle.publisher.proofs.sender_thread.count_heard.Given as goal

abbrev pub invariant-loop-destination : goal.invariant-loop-destination
invariant-loop-destination g l = record {
  few : l.count ≤ l.destination-index;
  heard : l.count ≡ heard_count (take l.destination-index l.destinations);
}
