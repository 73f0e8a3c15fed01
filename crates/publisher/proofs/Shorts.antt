-- A publisher that has ended short has given a line that says why.
use Rattle.std.proofs.Common.{◌≡◌, ◌∙◌, ◌⊎◌, inl, inr, true, List, Option, IfOk, Result, Ok, Err, refl, sym, subst}
use Rattle.std.specs.Prelude.{⊤, slice_index_or}
use Rattle.std.specs.declared.net.SocketAddr.{SocketAddr}
use Rattle.shared_log.specs.Steps.Handles.{LogValue}
use Rattle.endpoint.specs.Fans.{Fanned}
use Rattle.endpoint.specs.declared.udp.Route.{Route}
use Rattle.options.specs.declared.ends.plans.PublishPlan.{PublishPlan}
use Rattle.peer.specs.Ties.{Tied}
use Rattle.peer.specs.declared.attendance.Attendance.{Attendance}
use Rattle.peer.specs.declared.attendance.Ending.{Ending}
use Rattle.peer.specs.declared.attendance.Ending.TheVariants.{Whole, Short}
use Rattle.peer.specs.declared.attended.ToldEnds.{ToldEnds}
use Rattle.publisher.specs.declared.offering.reading.Reading.{Reading}
use Rattle.publisher.specs.Destinations.{AreDestinationsAlong}
use Rattle.publisher.specs.Ended.{ArrivesAt}
use Rattle.publisher.specs.Farewells.{are_told_no_other}
use Rattle.publisher.specs.Judging.{stream_end_in}
use Rattle.publisher.specs.Openings.{IsPlanned}
use Rattle.publisher.specs.Seeing.{ChannelDestination}
use Rattle.publisher.specs.Shorts.{EndsShort, IsUnclosed, SaysItsShortfall, unclosed}
use Rattle.publisher.specs.Whys.{SaysUnclosed, UnclosedBy}
use Rattle.publisher.specs.declared.fault.PublishFault.{PublishFault}
use Rattle.publisher.specs.declared.sender_thread.SenderPasses.{SenderPasses}
use Rattle.publisher.specs.declared.telling.ToldShortfall.{ToldShortfall}

abbrev pub IsOk : Result Ending PublishFault → Type 0
IsOk (Ok ending) = ⊤
IsOk (Err fault) = ⊥

pub is_ok : (sent ending : Result Ending PublishFault) → (ending ≡ sent) ⊎ (ending ≡ unclosed sent) → ending ≡ Ok Short → IsOk sent
is_ok (Ok e) ending or short = tt
is_ok (Err fault) ending (inl same) short = subst IsOk (sym short ∙ same) tt
is_ok (Err fault) ending (inr same) short = subst IsOk (sym short ∙ same) tt

pub no_other : (sent : Result Ending PublishFault) (P : Type 0) → IsOk sent → IfOk sent (λ _. P) → P
no_other (Ok e) P ok so = so
no_other (Err fault) P ok so = absurd ok

-- it ended short, and has said so, or all had arrived, and its log couldn't be closed
said : (l : LogValue) (passes : SenderPasses (Fanned (ChannelDestination Tied))) (p : PublishPlan) (peer : SocketAddr) (reading : Option Reading) (heard : List Attendance) (ends : List (Option ToldEnds)) (sent ending : Result Ending PublishFault) (told after : Option ToldShortfall)
    → (sent ≡ Ok Whole → ArrivesAt l passes peer p reading heard ends) → IsOk sent → (sent ≡ Ok Short → EndsShort l passes p peer told) → SaysUnclosed peer told sent ending after → ending ≡ Ok Short → EndsShort l passes p peer after ⊎ IsUnclosed l passes p peer reading after
said l passes p peer reading heard ends (Ok Whole) ending told after arrived ok short says is =
    inr (record { heard = heard; ends = ends; arrived = arrived refl; line = subst (λ (e : Result Ending PublishFault). UnclosedBy peer told e after) is says })
said l passes p peer reading heard ends (Ok Short) ending told after arrived ok short says is = inl (subst (EndsShort l passes p peer) (sym says) (short refl))
said l passes p peer reading heard ends (Err fault) ending told after arrived ok short says is = absurd ok

pub says : (l : LogValue) (passes : SenderPasses (Fanned (ChannelDestination Tied))) (p : PublishPlan) (routes : List Route) (first : Route) (peer : SocketAddr) (sent ending : Result Ending PublishFault) (told after : Option ToldShortfall) (reading : Option Reading) (heard : List Attendance) (ends : List (Option ToldEnds))
    → IsPlanned p l → AreDestinationsAlong p routes passes.duty.device.ways → first ≡ slice_index_or routes 0 first → peer ≡ first.peer → (sent ≡ Ok Whole → ArrivesAt l passes peer p reading heard ends) → (sent ≡ Ok Short → EndsShort l passes p peer told)
    → IfOk sent (λ _. are_told_no_other p.geometry (stream_end_in reading) ends ≡ true) → (ending ≡ sent) ⊎ (ending ≡ unclosed sent) → SaysUnclosed peer told sent ending after → ending ≡ Ok Short → SaysItsShortfall p routes
says l passes p routes first peer sent ending told after reading heard ends planned along stands same arrived short other kept line is =
    let ok = is_ok sent ending kept is in
    record {
      log = l;
      log_is = planned;
      passes = passes;
      destinations = along;
      first = first;
      stands = stands;
      told = after;
      reading = reading;
      why = subst (λ (a : SocketAddr). EndsShort l passes p a after ⊎ IsUnclosed l passes p a reading after) same (said l passes p peer reading heard ends sent ending told after arrived ok short line is);
      ends = ends;
      no_other = no_other sent (are_told_no_other p.geometry (stream_end_in reading) ends ≡ true) ok other;
    }
