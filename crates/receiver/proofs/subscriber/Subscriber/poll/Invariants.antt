use Rattle.std.proofs.Common.{◌-◌, ◌^◌}
use Rattle.receiver.specs.Representing.{place_in}
use Rattle.receiver.specs.contracts.receiver_core.ReceiverCore.{the_view}
use Rattle.receiver.proofs.Polled.{PollsOnwards}
use Rattle.receiver.proofs.subscriber.Subscriber.poll.Given as goal

-- no frame so far has completed a message
abbrev pub invariant-loop-self : goal.invariant-loop-self
invariant-loop-self l = PollsOnwards l.fn.self (the_view l.self-inside-inside.0.0) l.self-inside-inside.0.1.0 l.self-inside-inside.0.1.1.0.assembler

-- the consumer goes on, and no position is above 2^55
abbrev pub decreases-loop-self : goal.decreases-loop-self
decreases-loop-self l = 2 ^ 56 - place_in l.self-inside-inside.0.0.image 0
