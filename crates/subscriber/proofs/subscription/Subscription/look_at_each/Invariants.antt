use Rattle.std.proofs.Common.{◌≡◌, ◌≤◌}
use Rattle.std.specs.List.{AllByRecursion}
use Rattle.subscriber.specs.Sessions.{FollowsOn, HasLooked, IsSized}
use Rattle.subscriber.proofs.Along.{Along}
use Rattle.subscriber.proofs.subscription.Subscription.look_at_each.Given as goal

abbrev pub invariant-loop-session : goal.invariant-loop-session
invariant-loop-session g l = record {
  size : AllByRecursion IsSized l.sessions;
  few : l.all ≤ l.self.plan.messages;
  looked : Along HasLooked l.session-index l.fn.sessions l.sessions;
  lives : FollowsOn l.self.plan l.written l.fn.sessions (g.W.Write.contents l.fn.output) l.all l.sessions (g.W.Write.contents l.output);
  moment : l.watch.moment ≡ l.fn.watch.moment;
}
