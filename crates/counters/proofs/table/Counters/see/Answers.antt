use Rattle.std.proofs.Common.{rules}
use Rattle.counters.proofs.Moves.{reads}
use Rattle.counters.proofs.table.Counters.see.Goals as goal

pub load_as-requires : goal.load_as-requires
load_as-requires g c = (search rules, (search rules, (search rules, reads _ _)))
