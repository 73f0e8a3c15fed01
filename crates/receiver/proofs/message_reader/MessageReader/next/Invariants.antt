use Rattle.std.proofs.Common.{◌-◌, ◌^◌}
use Rattle.image.specs.Handles.{position_of}
use Rattle.receiver.proofs.Heard.{HasHeardOn}
use Rattle.receiver.proofs.message_reader.MessageReader.next.Given as goal

-- no frame so far has completed a message
abbrev pub invariant-loop-self : goal.invariant-loop-self
invariant-loop-self l = HasHeardOn l.fn.self l.self

-- the reader goes on, and no position is above 2^61
abbrev pub decreases-loop-self : goal.decreases-loop-self
decreases-loop-self l = 2 ^ 62 - position_of l.self.seat
