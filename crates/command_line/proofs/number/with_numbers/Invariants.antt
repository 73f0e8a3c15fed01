use Rattle.std.proofs.Common.{◌≡◌, ◌≤◌, false, drop, length}
use Rattle.clap.specs.declared.builder.command.Command.TheViews.{out-Command}
use Rattle.clap.specs.Words.{app_of}
use Rattle.command_line.specs.Numbers.{with_numbers}
use Rattle.command_line.proofs.number.with_numbers.Given as goal

abbrev pub invariant-loop-number : goal.invariant-loop-number
invariant-loop-number l = record {
  in_range : l.number-index ≤ length l.numbers;
  shape : with_numbers (drop l.number-index l.numbers) (app_of l.command) ≡ with_numbers l.numbers (app_of l.fn.command);
  globals : (out-Command l.fn.command).has_globals ≡ false → (out-Command l.command).has_globals ≡ false;
}
