use Rattle.std.proofs.Common.{◌<◌, ◌≤◌, length}
use Rattle.std.specs.List.{AllByRecursion}
use Rattle.subscriber.specs.Apart.{AreApart}
use Rattle.subscriber.specs.Living.{FollowsAll}
use Rattle.subscriber.specs.Places.{most_places}
use Rattle.subscriber.specs.Sessions.{IsSized}
use Rattle.subscriber.proofs.Kept.{IsKept}
use Rattle.subscriber.proofs.subscription.Subscription.follow.Given as goal

abbrev pub invariant-loop : goal.invariant-loop
invariant-loop g l = record {
  size : AllByRecursion IsSized l.sessions.list.items;
  some : 0 < length l.sessions.list.items;
  apart : AreApart l.sessions.list.items;
  places : length l.sessions.list.items ≤ most_places l.self.plan;
  few : l.written ≤ l.self.plan.messages;
  kept : AllByRecursion IsKept l.sessions.list.items;
  lives : FollowsAll l.self.plan (g.W.Write.contents l.initial.output) l.written l.sessions.list.items (g.W.Write.contents l.output);
}
