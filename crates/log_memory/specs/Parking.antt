-- The room of a pass's open frames goes home, and is taken from there by the seat that has the pass then.
use Rattle.std.specs.Prelude.{◌≡◌, suc, []}
use Rattle.log_rule.specs.Claims.Closing.{handing_seats}
use Rattle.log_memory.specs.Open.{HoldsOpen, HoldsRooms}
use Rattle.log_memory.specs.Steps.{AreApart, IsIdle, Mine}
use Rattle.log_memory.specs.declared.view.Site.{Site}

-- all that the seat carries is at home then: the room of its pass's open frames
pub record Parks (m m' : Mine) : Type 0 where
  pub carried : m'.1 ≡ []
  pub view : m'.0 ≡ record m.0 { view = record m.0.view { steps = suc m.0.view.steps }; parked = m.0.view.pass.work.drafts }

-- what was at home is carried, over what else is; no two of the pass's open frames begin at one position
pub record Fetches (t : Site) (m m' : Mine) : Type 0 where
  pub view : m'.0 ≡ record m.0 { view = record m.0.view { steps = suc m.0.view.steps }; parked = [] }
  pub rooms : HoldsRooms t m.0.parked m.1 m'.1
  pub apart : AreApart m.0.view.pass.work.drafts

-- the first has what both had, by one step, and carries the room of all that is open
pub record TakesOver (t : Site) (m other m' : Mine) : Type 0 where
  pub idle : IsIdle m'.0
  pub room : m'.0.room ≡ m.0.room
  pub view : m'.0.view ≡ record (handing_seats m.0.view other.0.view) { steps = suc m.0.view.steps }
  pub holds : HoldsOpen t m'
  pub apart : AreApart m'.0.view.pass.work.drafts
