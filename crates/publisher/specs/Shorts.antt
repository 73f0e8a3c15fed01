-- What a publisher that has ended short has told.
use Rattle.std.specs.Prelude.{◌≡◌, ◌⊎◌, true, List, slice_index_or, Option, Result, Ok, Err}
use Rattle.std.specs.declared.net.SocketAddr.{SocketAddr}
use Rattle.shared_log.specs.Steps.Handles.{LogValue}
use Rattle.endpoint.specs.Fans.{Fanned}
use Rattle.endpoint.specs.declared.udp.Route.{Route}
use Rattle.options.specs.declared.ends.plans.PublishPlan.{PublishPlan}
use Rattle.peer.specs.Ties.{Tied}
use Rattle.peer.specs.declared.attendance.Attendance.{Attendance}
use Rattle.peer.specs.declared.attendance.Ending.{Ending}
use Rattle.peer.specs.declared.attendance.Ending.TheVariants.{Short}
use Rattle.peer.specs.declared.attended.ToldEnds.{ToldEnds}
use Rattle.publisher.specs.declared.offering.reading.Reading.{Reading}
use Rattle.publisher.specs.Destinations.{AreDestinationsAlong, peer_of}
use Rattle.publisher.specs.Ended.{ArrivesAt, IsBegun}
use Rattle.publisher.specs.Farewells.{are_told_no_other}
use Rattle.publisher.specs.Judging.{stream_end_in}
use Rattle.publisher.specs.Openings.{IsPlanned}
use Rattle.publisher.specs.Seeing.{ChannelDestination}
use Rattle.publisher.specs.Turns.{SaysWhy}
use Rattle.publisher.specs.Whys.{IsTold}
use Rattle.publisher.specs.declared.fault.PublishFault.{PublishFault}
use Rattle.publisher.specs.declared.sender_thread.ChannelSender.{ChannelSender}
use Rattle.publisher.specs.declared.sender_thread.SenderPasses.{SenderPasses}
use Rattle.publisher.specs.declared.telling.Shortfall.TheVariants.{Unclosed}
use Rattle.publisher.specs.declared.telling.ToldShortfall.{ToldShortfall}

-- a sender of this log's stream with these passes began at the log's start: a line was given that says why it ended short
pub record EndsShort {D : Type 0} (l : LogValue) (passes : SenderPasses (Fanned (ChannelDestination D))) (p : PublishPlan) (peer : SocketAddr) (told : Option ToldShortfall) : Type 0 where
  pub first : ChannelSender D
  pub begun : IsBegun l passes peer first
  pub why : SaysWhy p first told

-- how one ended whose log isn't closed: not whole
abbrev pub unclosed : Result Ending PublishFault → Result Ending PublishFault
unclosed (Ok ending) = Ok Short
unclosed (Err fault) = Err fault

-- each destination had received all, but its log couldn't be closed: the line of that, which names this peer, was given
pub record IsUnclosed (l : LogValue) (passes : SenderPasses (Fanned (ChannelDestination Tied))) (p : PublishPlan) (peer : SocketAddr) (reading : Option Reading) (told : Option ToldShortfall) : Type 0 where
  pub heard : List Attendance
  pub ends : List (Option ToldEnds)
  pub arrived : ArrivesAt l passes peer p reading heard ends
  pub line : IsTold peer Unclosed told

-- a publisher along these routes, over a log of the plan, has given a line that says why it ended short: it gave up, or its log couldn't
-- be closed; and none of its destinations' devices was given another end to tell than its reading's. Lines about no destination alone
-- name the first route's peer
pub record SaysItsShortfall (p : PublishPlan) (routes : List Route) : Type 0 where
  pub log : LogValue
  pub log_is : IsPlanned p log
  pub passes : SenderPasses (Fanned (ChannelDestination Tied))
  pub destinations : AreDestinationsAlong p routes passes.duty.device.ways
  pub first : Route
  pub stands : first ≡ slice_index_or routes 0 first
  pub told : Option ToldShortfall
  pub reading : Option Reading
  pub why : EndsShort log passes p (peer_of first) told ⊎ IsUnclosed log passes p (peer_of first) reading told
  pub ends : List (Option ToldEnds)
  pub no_other : are_told_no_other p.geometry (stream_end_in reading) ends ≡ true
