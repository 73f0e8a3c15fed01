use Rattle.std.proofs.Common.{◌≤◌, length}
use Rattle.std.specs.Io.KnownBytes.{Consumes}
use Rattle.messages.specs.Inputs.{IsOneLine}
use Rattle.messages.proofs.lines.next_line.Given as goal

-- what was taken so far is the message's beginning
abbrev pub invariant-loop-turn : goal.invariant-loop-turn
invariant-loop-turn g l = record {
  taken : Consumes (g.R.Read.remaining l.fn.input) (g.R.Read.remaining l.input) l.message.items;
  one_line : IsOneLine l.message.items;
  short : length l.message.items ≤ l.greatest;
}
