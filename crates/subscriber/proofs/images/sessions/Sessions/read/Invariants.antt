use Rattle.std.proofs.Common.{◌≡◌, ℕ}
use Rattle.std.specs.List.{AllZip}
use Rattle.subscriber.specs.Routing.{ReadsMany}
use Rattle.subscriber.specs.Sessions.{IsRouted}
use Rattle.subscriber.proofs.images.sessions.Sessions.read.Given as goal

abbrev pub invariant-loop : goal.invariant-loop
invariant-loop l = record {
  reads : (n : ℕ) × ReadsMany n (record { sessions = l.initial.self.list.items; socket = l.initial.self.reception; seen = l.initial.watch }) (record { sessions = l.self.list.items; socket = l.self.reception; seen = l.watch });
  kept : AllZip IsRouted l.initial.self.list.items l.self.list.items;
  moment : l.watch.moment ≡ l.initial.watch.moment;
}
