use Rattle.std.proofs.Common.{◌≡◌, true, IfNone, IfSome, take}
use Rattle.std.specs.List.{list_all}
use Rattle.publisher.specs.Endings.{is_whole_along}
use Rattle.publisher.specs.Judges.{IsToldOf}
use Rattle.publisher.proofs.destination_lines.tell_each_unwritten.Given as goal

abbrev pub invariant-loop-destination : goal.invariant-loop-destination
invariant-loop-destination g l = record {
  whole : IfNone l.last (list_all (is_whole_along l.end) (take l.destination-index l.destinations) ≡ true);
  told : IfSome l.last (IsToldOf l.end l.tail (take l.destination-index l.destinations));
}
