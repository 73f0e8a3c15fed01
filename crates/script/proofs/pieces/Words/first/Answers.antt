use Rattle.std.proofs.Common.{rules, ap, ◌∙◌}
use Rattle.script.specs.Rests.{words_in}
use Rattle.script.specs.Reading.{word_at}
use Rattle.script.proofs.Cuts.{word_cut, word_whole}
use Rattle.script.proofs.pieces.Words.first.Goals as goal

pub returns-in_err-line : goal.returns-in_err-line
unfolding word_at
returns-in_err-line c = rw c.from_residual.ensures (ap (λ rest. word_at (words_in rest)) c.in_err-line.was)

pub returns-in-Some : goal.returns-in-Some
unfolding word_at
returns-in-Some c =
    ap (λ rest. word_at (words_in rest)) c.in_ok-line.was ∙ ap word_at (word_cut c.in_ok-line.line.now c.in-Some.end (search rules) (search rules) (search rules))

pub returns-in-None : goal.returns-in-None
unfolding word_at
returns-in-None c =
    ap (λ rest. word_at (words_in rest)) c.in_ok-line.was ∙ ap word_at (word_whole c.in_ok-line.line.now (search rules))
