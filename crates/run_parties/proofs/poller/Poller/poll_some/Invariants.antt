use Rattle.std.proofs.Common.{◌≡◌, ◌≤◌, ◌+◌}
use Rattle.image.specs.Handles.{misses_of}
use Rattle.run_parties.proofs.poller.Poller.poll_some.Given as goal

abbrev pub invariant-loop-count : goal.invariant-loop-count
invariant-loop-count l =
    (l.self.tally.polled ≤ l.initial.self.tally.polled + l.count) × (l.self.reader.image ≡ l.initial.self.reader.image) × (l.count ≡ 0 → misses_of l.self.reader.seat ≡ misses_of l.initial.self.reader.seat)
