-- What a run begins with, and when its log can be closed.
use Rattle.std.specs.Prelude.{◌≡◌, ◌+◌, ◌++◌, List, length, map}
use Rattle.std.specs.List.{AllByRecursion}
use Rattle.theory.specs.Position.{Geometry, IsGeometry}
use Rattle.shared_log.specs.Steps.Handles.{LogValue, PublisherValue, parts_in}
use Rattle.log_rule.specs.Claims.Sums.{total}
use Rattle.shared_log.specs.Books.{IsDone, ShowsBook}
use Rattle.shared_log.specs.Keepers.{KeeperValue}
use Rattle.run_parties.specs.Passes.{HasNone, IsKept}
use Rattle.run_parties.specs.RunLogs.{IsRunLog}
use Rattle.run.specs.Threads.{AreCounted, ArePasses, IsBack, counters_of, shown_of}
use Rattle.run.specs.Outcomes.{device_in, told_of}
use Rattle.run.specs.declared.passes.Publications.{Publications}
use Rattle.run.specs.declared.passes.Returned.{Returned}
use Rattle.run.specs.declared.passes.Size.{Size}
use Rattle.run.specs.declared.planned_run.Beginning.{Beginning}
use Rattle.run.specs.declared.planned_run.RunEnd.{RunEnd}

-- a log of this shape with its passes: so many publishers, others that take no part, and so many receivers
pub record IsBeginning {D : Type 0} (g : Geometry) (size : Size) (b : Beginning D) : Type 0 where
  pub legal : IsGeometry g
  pub shape : b.state.log.identity.geometry ≡ g
  pub log_is : IsRunLog b.state.log
  pub passes : ArePasses b.state.log b.state.conductor size b.passes
  pub shown : map shown_of b.shown.items ≡ map counters_of b.passes.receivers.items
  pub others : AllByRecursion (IsDone b.state.log) b.others.items
  pub unclaimed : AllByRecursion HasNone b.others.items
  pub whole : total parts_in b.passes.publishers.items + total parts_in b.others.items ≡ 1016

-- all publishers of a log have nothing open, some have claimed nothing at all, and its keeper has claimed nothing
pub record CanClose (l : LogValue) (size : Size) (p : Publications) (k : KeeperValue) (others : List PublisherValue) : Type 0 where
  pub legal : IsGeometry l.identity.geometry
  pub start : l.start ≡ 0
  pub many : length p.publishers.items ≡ size.publishers
  pub publishers : AllByRecursion (IsBack l size) p.publishers.items
  pub counted : AreCounted p.accepted p.publishers.items
  pub others_are : AllByRecursion (IsDone l) others
  pub unclaimed : AllByRecursion HasNone others
  pub whole : total parts_in p.publishers.items + total parts_in others ≡ 1016
  pub keeper : IsKept l k

-- what the threads gave back is told, with the book of the log, and the receivers' devices
pub record Leaves {D : Type 0} (l : LogValue) (r : Returned D) (others : List PublisherValue) (e : RunEnd D) : Type 0 where
  pub tallies : e.outcome.tallies.items ≡ map told_of r.parties.received.items
  pub replies : e.replies.items ≡ map device_in r.parties.received.items
  pub accepted : e.outcome.accepted ≡ r.parties.published.accepted
  pub book : ShowsBook l (r.parties.published.publishers.items ++ others) e.outcome.book
