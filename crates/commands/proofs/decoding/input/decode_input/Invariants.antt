use Rattle.commands.specs.DecodedInput.{Decoded}
use Rattle.commands.proofs.decoding.input.decode_input.Given as goal

-- the lines so far are decoded
abbrev pub invariant-loop-number : goal.invariant-loop-number
invariant-loop-number g l =
    Decoded (g.R.Read.remaining l.fn.input) (g.R.Read.remaining l.input) (g.W.Write.contents l.fn.output) (g.W.Write.contents l.output)
