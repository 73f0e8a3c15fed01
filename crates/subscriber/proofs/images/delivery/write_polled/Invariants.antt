use Rattle.std.proofs.Common.{◌≡◌}
use Rattle.subscriber.proofs.Writing.{Written}
use Rattle.subscriber.proofs.images.delivery.write_polled.Given as goal

abbrev pub invariant-loop-count : goal.invariant-loop-count
invariant-loop-count g l = Written l.form l.initial.subscriber (g.W.Write.contents l.initial.output) l.count l.subscriber (g.W.Write.contents l.output) × (l.messages ≡ l.limit)
