use Rattle.std.proofs.Common.{◌≡◌, None, Some, IfNone, IfSome}
use Rattle.run_parties.proofs.receiver_turns.receive_on.Given as goal

abbrev pub invariant-loop-turn : goal.invariant-loop-turn
invariant-loop-turn g l =
    (l.reception.fault ≡ None) × IfNone l.subscriber (l.reception.image ≡ None)
    × IfSome l.subscriber (λ h. (h.promise.wanted ≡ l.duties.wanted) × (l.reception.image ≡ Some h.promise.before.value.reader.image))
