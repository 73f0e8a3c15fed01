use Rattle.std.proofs.Common.{◌≡◌}
use Rattle.subscriber.proofs.listening.listen.Given as goal

abbrev pub invariant-loop : goal.invariant-loop
invariant-loop g l = l.initial.reception.socket.asks ≡ l.initial.watch.calls → l.reception.socket.asks ≡ l.watch.calls
