use Rattle.std.proofs.Common.{◌≡◌, ℕ}
use Rattle.peer.specs.Ties.{PassesMany}
use Rattle.peer.proofs.tied.TiedDevice.seek.Given as goal

abbrev pub invariant-loop : goal.invariant-loop
invariant-loop l = record {
  passes : (n : ℕ) × PassesMany n l.initial.self l.self;
  passed : l.self.passed ≡ l.counter;
  device : l.self.device ≡ l.initial.self.device;
}
