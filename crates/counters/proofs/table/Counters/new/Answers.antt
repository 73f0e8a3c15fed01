use Rattle.std.proofs.Common.{rules}
use Rattle.counters.proofs.Moves.{begins}
use Rattle.counters.proofs.table.Counters.new.Goals as goal

pub ruled-requires : goal.ruled-requires
ruled-requires c = (search rules, (search rules, begins))
