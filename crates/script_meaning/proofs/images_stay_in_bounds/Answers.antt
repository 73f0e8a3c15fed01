use Rattle.script_meaning.proofs.InBounds.{always_in_bounds}
use Rattle.script_meaning.proofs.images_stay_in_bounds.Goals as goal

pub returns : goal.returns
returns c = always_in_bounds
