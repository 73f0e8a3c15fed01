use Rattle.std.proofs.Common.{◌≡◌, vec_len}
use Rattle.frames.specs.OutboxSlots.{AreOfSize}
use Rattle.frames.proofs.outbox.Outbox.new.Given as goal

abbrev pub invariant-loop : goal.invariant-loop
invariant-loop l = (vec_len l.slots ≡ l.counter) × AreOfSize l.mtu l.slots.items
