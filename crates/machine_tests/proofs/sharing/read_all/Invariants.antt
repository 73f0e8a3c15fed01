use Rattle.std.proofs.Common.{◌≡◌}
use Rattle.machine_tests.proofs.sharing.read_all.Given as goal

abbrev pub invariant-loop : goal.invariant-loop
invariant-loop g l = (l.reader.counters ≡ l.counters) × (l.reader.counters ≡ l.fn.reader.counters)
