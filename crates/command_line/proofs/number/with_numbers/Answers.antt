use Rattle.std.proofs.Common.{◌∙◌, arith}
use Rattle.command_line.proofs.Numbers.{one_more}
use Rattle.command_line.proofs.number.with_numbers.Goals as goal

pub loop-number-preserved : goal.loop-number-preserved
loop-number-preserved c = record {
  in_range = omega arith;
  shape = one_more c.args.numbers.now c.loop-number.number-index _ _ _ c.loop-number-test.true c.in_ok-command.ensures.shape ∙ c.loop-number.invariant.shape;
  globals = λ none. c.in_ok-command.ensures.globals (c.loop-number.invariant.globals none);
}
