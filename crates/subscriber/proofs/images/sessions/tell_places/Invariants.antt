use Rattle.std.specs.List.{AllByRecursion, AllZip}
use Rattle.subscriber.specs.Sessions.{HasLeft, IsSized}
use Rattle.subscriber.proofs.Along.{Along}
use Rattle.subscriber.proofs.Farewells.{ToldAt}
use Rattle.subscriber.proofs.images.sessions.tell_places.Given as goal

abbrev pub invariant-loop-session : goal.invariant-loop-session
invariant-loop-session l = record {
  size : AllByRecursion IsSized l.sessions;
  left : AllZip HasLeft l.fn.sessions l.sessions;
  told : Along (ToldAt l.now) l.session-index l.fn.sessions l.sessions;
}
