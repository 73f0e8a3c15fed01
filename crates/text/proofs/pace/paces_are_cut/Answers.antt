use Rattle.std.proofs.Common.{refl}
use Rattle.text.proofs.pace.paces_are_cut.Goals as goal

pub returns : goal.returns
returns c = (refl, refl, refl)
