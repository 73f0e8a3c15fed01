use Rattle.std.proofs.Common.{rules, sym, subst}
use Rattle.counters.specs.Order.{IsAtMost}
use Rattle.counters.specs.Parties.{WriterSeen}
use Rattle.counters.proofs.Moves.{writes}
use Rattle.counters.proofs.table.Counters.publish.Goals as goal

pub swap_as-requires : goal.swap_as-requires
swap_as-requires g c = (search rules, (search rules, (search rules, writes _ _ _ c.writer.invariant c.requires.order (subst (λ (s : WriterSeen). IsAtMost s.last c.args.readings) (sym c.writer.view_is) c.requires.not_back))))
