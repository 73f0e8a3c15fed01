use Rattle.std.proofs.Common.{ap, ◌∙◌}
use Rattle.script.specs.Rests.{words_in}
use Rattle.script.specs.Reading.{end_of}
use Rattle.script.proofs.Cuts.{some_word}
use Rattle.script.proofs.pieces.Words.end.Goals as goal

pub returns-in-None : goal.returns-in-None
unfolding end_of
returns-in-None c = ap (λ rest. end_of (words_in rest)) c.in-None.is

pub returns-in-Some : goal.returns-in-Some
unfolding end_of
returns-in-Some c = ap (λ rest. end_of (words_in rest)) c.in-Some.is ∙ some_word c.in-Some.field-0.now
