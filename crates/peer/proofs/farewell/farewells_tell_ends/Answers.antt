use Rattle.peer.proofs.Farewells.{ends_told}
use Rattle.peer.proofs.farewell.farewells_tell_ends.Goals as goal

pub returns : goal.returns
returns c = ends_told
