use Rattle.std.proofs.Common.{◌∙◌, ap, bit_and, arith}
use Rattle.position.proofs.Numbers.{power_mask, power_shift}
use Rattle.position.proofs.lengths.split_by.Goals as goal

pub returns-clause-times : goal.returns-clause-times
returns-clause-times c = power_shift c.args.number c.args.power c.requires (omega (arith, c.ranges.power))

pub returns-clause-rest : goal.returns-clause-rest
returns-clause-rest c = ap (bit_and c.args.number) c.from.ensures ∙ power_mask c.args.number c.args.power c.requires
