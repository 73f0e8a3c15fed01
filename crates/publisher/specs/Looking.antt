-- What a cycle has shown of a publisher's device.
use Rattle.std.specs.Prelude.{Bool, not, ◌&&◌, nat_eq}
use Rattle.loss_injector.specs.Losing.{Losing}
use Rattle.peer.specs.Patience.{Patient}
use Rattle.peer.specs.Watching.{Watching}
use Rattle.publisher.specs.declared.destination.Calls.{Calls}
use Rattle.publisher.specs.declared.destination.Seen.{Seen}

abbrev pub calls_of : {D : Type 0} → Watching (Losing (Patient D)) → Calls
calls_of d = record { nones = d.inner.inner.nones; lost = d.inner.inner.lost }

-- a receive found nothing, and no call failed
abbrev pub is_at_rest : Calls → Calls → Bool
is_at_rest before after = not (nat_eq after.nones before.nones) && nat_eq after.lost before.lost

abbrev pub seen_of : {D : Type 0} → Calls → Watching (Losing (Patient D)) → Seen
seen_of before d = record {
  attendance = d.watch.attendance;
  tally = d.watch.tally;
  lost = d.inner.inner.lost;
  worked = d.inner.inner.worked;
  at_rest = is_at_rest before (calls_of d);
}
