use Rattle.std.proofs.Common.{◌≡◌}
use Rattle.subscriber.specs.Sessions.{turn_begun}
use Rattle.subscriber.specs.declared.images.session.Session.{Session}
use Rattle.subscriber.proofs.Along.{Along}
use Rattle.subscriber.proofs.images.sessions.begin_each.Given as goal

abbrev pub invariant-loop-session : goal.invariant-loop-session
invariant-loop-session l = Along (λ (j k : Session). k ≡ turn_begun l.now j) l.session-index l.fn.sessions l.sessions
