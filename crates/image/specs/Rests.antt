-- What holds of an inserter between two calls.
use Rattle.std.specs.Prelude.{◌≡◌, ℕ, List, [], Option}
use Rattle.region.specs.declared.access.RegionKey.{RegionKey}
use Rattle.image_rule.specs.declared.view.Key.{Key}
use Rattle.image_rule.specs.Frames.{ring}
use Rattle.image_rule.specs.Steps.{Mine}
use Rattle.image.specs.declared.inserter.room.Room.{Room}
use Rattle.image.specs.Handles.{IsInserting}
use Rattle.image.specs.Memory.{HasRoom}

-- it carries no slot, and has its room
pub record Rests (key : Key) (region : RegionKey) (m : Mine) (room : Option Room) (heads : List ℕ) : Type 0 where
  pub inserting : IsInserting key m.0
  pub slots : m.1 ≡ []
  pub has : HasRoom (ring key) region m.0.held room heads
