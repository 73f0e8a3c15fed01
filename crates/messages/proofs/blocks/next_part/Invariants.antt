use Rattle.std.proofs.Common.{◌≤◌, length}
use Rattle.std.specs.Io.KnownBytes.{Consumes}
use Rattle.messages.proofs.blocks.next_part.Given as goal

-- what was taken so far is held
abbrev pub invariant-loop-turn : goal.invariant-loop-turn
invariant-loop-turn g l = record {
  taken : Consumes (g.R.Read.remaining l.fn.input) (g.R.Read.remaining l.input) l.message.items;
  short : length l.message.items ≤ l.length;
}
