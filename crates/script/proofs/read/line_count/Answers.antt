use Rattle.std.proofs.Common.{ap, arith, inl, length}
use Rattle.script.proofs.Whole.{lines_few}
use Rattle.script.proofs.read.line_count.Goals as goal

pub count-requires-clause-fits : goal.count-requires-clause-fits
count-requires-clause-fits c = inl (omega (arith, lines_few c.args.bytes.now, ap length c.new.ensures))
