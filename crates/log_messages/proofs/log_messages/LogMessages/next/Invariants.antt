use Rattle.std.proofs.Common.{◌-◌, ◌^◌}
use Rattle.shared_log.specs.Readers.{IsAlone, IsReaderOf}
use Rattle.log_messages.proofs.Heard.{HasHeardOn}
use Rattle.log_messages.proofs.log_messages.LogMessages.next.Given as goal

-- no frame so far has completed a message
abbrev pub invariant-loop-message : goal.invariant-loop-message
invariant-loop-message l = record { heard : HasHeardOn l.fn.self l.self; reader : IsReaderOf l.log l.self.reader; alone : IsAlone l.log l.fn.self.reader → IsAlone l.log l.self.reader }

-- the reader goes on, and a position is below 2^64
abbrev pub decreases-loop-message : goal.decreases-loop-message
decreases-loop-message l = 2 ^ 64 - l.self.reader.position
