-- The log of a run.
use Rattle.std.specs.Prelude.{◌≡◌, ◌+◌, ◌<◌, ℕ, length, pos}
use Rattle.std.specs.List.{AllByRecursion}
use Rattle.theory.specs.Position.{Geometry, IsGeometry}
use Rattle.shared_log.specs.Steps.Handles.{LogValue, parts_in}
use Rattle.log_rule.specs.Claims.Sums.{total}
use Rattle.shared_log.specs.Books.{IsDone}
use Rattle.shared_log.specs.Parts.{IsNewReader}
use Rattle.run_parties.specs.Passes.{HasNone, IsKept}
use Rattle.run_parties.specs.declared.run_log.RunLog.{RunLog}

-- a log that a run begins with
pub record IsRunLog (l : LogValue) : Type 0 where
  pub session : l.identity.session ≡ pos 1
  pub stream : l.identity.stream ≡ pos 1001
  pub start : l.start ≡ 0
  pub consumers : l.consumers ≡ 1

-- such a log of this shape with its passes: so many publishers that take part, by their numbers, the others, of which as of
-- those none has claimed anything, its reader and its keeper
pub record IsNewRunLog (g : Geometry) (count : ℕ) (r : RunLog) : Type 0 where
  pub shape : r.log.identity.geometry ≡ g
  pub legal : IsGeometry g
  pub log_is : IsRunLog r.log
  pub publishers : AllByRecursion (IsDone r.log) r.publishers.items
  pub others : AllByRecursion (IsDone r.log) r.others.items
  pub many : length r.publishers.items ≡ count
  pub low : AllByRecursion (λ p. p.pass.number < count) r.publishers.items
  pub unclaimed : AllByRecursion HasNone r.publishers.items
  pub others_unclaimed : AllByRecursion HasNone r.others.items
  pub whole : total parts_in r.publishers.items + total parts_in r.others.items ≡ 1016
  pub reader : IsNewReader r.log 0 r.reader
  pub keeper : IsKept r.log r.keeper
