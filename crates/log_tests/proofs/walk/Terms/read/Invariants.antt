use Rattle.std.proofs.Common.{◌≤◌, length}
use Rattle.shared_log.specs.Readers.{IsReaderOf}
use Rattle.log_tests.proofs.walk.Terms.read.Given as goal

abbrev pub invariant-loop : goal.invariant-loop
invariant-loop l = IsReaderOf l.log l.reader × (l.log.identity.geometry.mtu ≤ length l.block)
