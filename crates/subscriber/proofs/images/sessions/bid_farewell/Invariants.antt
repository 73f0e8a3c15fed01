use Rattle.std.proofs.Common.{◌≤◌}
use Rattle.std.specs.List.{AllByRecursion, AllZip}
use Rattle.subscriber.specs.Sessions.{HasLeft, IsSized}
use Rattle.subscriber.proofs.images.sessions.bid_farewell.Given as goal

abbrev pub invariant-loop : goal.invariant-loop
invariant-loop g l = record {
  size : AllByRecursion IsSized l.sessions;
  left : AllZip HasLeft l.initial.sessions l.sessions;
  later : l.initial.watch.moment ≤ l.watch.moment;
}
