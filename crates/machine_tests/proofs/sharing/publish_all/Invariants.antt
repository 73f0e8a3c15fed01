use Rattle.std.proofs.Common.{◌≡◌, ◌*◌}
use Rattle.machine_tests.proofs.sharing.publish_all.Given as goal

abbrev pub invariant-loop-step : goal.invariant-loop-step
invariant-loop-step g l = (l.writer.counters ≡ l.counters) × (l.writer.counters ≡ l.fn.writer.counters) × (l.writer.last ≡ record { least = l.step; rebuilt = 2 * l.step; high_water = 3 * l.step })
