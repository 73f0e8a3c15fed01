-- A seat between two calls: it has no part of a frame, and carries the room of its pass's open frames, no two of which begin at one
-- position.
use Rattle.std.specs.Prelude.{◌≡◌, ℕ}
use Rattle.atomic_table.specs.Seated.{TableId}
use Rattle.region.specs.Identity as regions
use Rattle.publication.specs.declared.pass.Pass.{Pass}
use Rattle.log_memory.specs.declared.view.Site.{Site}
use Rattle.log_memory.specs.Open.{HoldsOpen}
use Rattle.log_memory.specs.Steps.{AreApart, IsIdle, Mine}
use Rattle.shared_log.specs.Steps.Handles.{PublisherValue}

-- where frames of the pass's stream lie, in this region
abbrev pub site_of : regions.Identity → Pass → Site
site_of region v = record { key = record { identity = v.identity; start = v.start; consumers = 0 }; region = record { identity = region } }

pub record IsResting (region : regions.Identity) (m : Mine) : Type 0 where
  pub idle : IsIdle m.0
  pub none_out : m.0.room.out ≡ 0
  pub holds : HoldsOpen (site_of region m.0.view.pass) m
  pub apart : AreApart m.0.view.pass.work.drafts

-- what is seen of it
abbrev pub seen_as : regions.Identity → TableId → ℕ → Mine → PublisherValue
seen_as region table seat m = record { of = record { table = table; region = region }; seat = seat; pass = m.0.view.pass; steps = m.0.view.steps; controls = m.0.view.controls; sure = m.0.view.sure; freed = m.0.room.freed }
