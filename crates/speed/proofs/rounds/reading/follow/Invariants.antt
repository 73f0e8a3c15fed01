use Rattle.std.proofs.Common.{◌≡◌, ◌+◌, ◌≤◌, length}
use Rattle.shared_log.specs.Readers.{IsReaderOf}
use Rattle.speed.specs.Rounds.{IsKept, read_by}
use Rattle.speed.proofs.rounds.reading.follow.Given as goal

abbrev pub invariant-loop : goal.invariant-loop
invariant-loop l = record { fits : IsReaderOf l.log l.reader; keeper : IsKept l.log l.keeper; room : l.log.identity.geometry.mtu ≤ length l.block; counted : read_by l.reader ≡ read_by l.fn.reader + l.read; low : l.read ≤ l.wanted }
