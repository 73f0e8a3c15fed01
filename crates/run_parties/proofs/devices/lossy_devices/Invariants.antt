use Rattle.std.proofs.Common.{◌≡◌, length}
use Rattle.run_parties.specs.Devices.{AreSeeded, reply_seed, way_seed}
use Rattle.run_parties.proofs.devices.lossy_devices.Given as goal

abbrev pub invariant-loop-number : goal.invariant-loop-number
invariant-loop-number g l = record {
  ways_many : length l.devices.ways.items ≡ l.number;
  replies_many : length l.devices.replies.items ≡ l.number;
  ways_lose : AreSeeded l.rates (way_seed l.seed) 0 l.devices.ways.items;
  replies_lose : AreSeeded l.rates (reply_seed l.seed) 0 l.devices.replies.items;
}
