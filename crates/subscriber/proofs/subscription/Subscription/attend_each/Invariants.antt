use Rattle.std.proofs.Common.{◌≡◌, drop, take}
use Rattle.std.specs.List.{AllZip}
use Rattle.subscriber.specs.Sessions.{share_of}
use Rattle.subscriber.specs.Turning.{AttendsOwn}
use Rattle.subscriber.proofs.subscription.Subscription.attend_each.Given as goal

abbrev pub invariant-loop-session : goal.invariant-loop-session
invariant-loop-session g l = record {
  done : AllZip (λ j k. AttendsOwn l.self.plan (share_of l.fn.sessions j) j k) (take l.session-index l.fn.sessions) (take l.session-index l.sessions);
  rest : drop l.session-index l.sessions ≡ drop l.session-index l.fn.sessions;
}
