use Rattle.std.proofs.Common.{◌≡◌, ℕ}
use Rattle.peer.specs.Watching.{PassesMany}
use Rattle.peer.proofs.attended.Attended.find.Given as goal

abbrev pub invariant-loop : goal.invariant-loop
invariant-loop g l = record {
  passes : (n : ℕ) × PassesMany g.D.Datagrams.device g.D.Datagrams.tells n l.initial.buffer l.initial.self l.self;
  buffer : l.buffer ≡ l.initial.buffer;
  passed : l.self.watch.passed ≡ l.counter;
  failures : (g.D.Datagrams.device l.self.inner).failures ≡ (g.D.Datagrams.device l.initial.self.inner).failures;
  nones : l.self.watch.nones ≡ l.initial.self.watch.nones;
}
