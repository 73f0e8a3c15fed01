use Rattle.std.proofs.Common.{rules}
use Rattle.counters.proofs.Moves.{tells}
use Rattle.counters.proofs.table.Counters.reader.Goals as goal

pub split_pass-requires : goal.split_pass-requires
split_pass-requires c = (search rules, (search rules, (search rules, tells _ _)))
