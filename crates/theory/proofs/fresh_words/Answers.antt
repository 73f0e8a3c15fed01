use Rattle.theory.proofs.Fresh.{fresh_shows_start}
use Rattle.theory.proofs.fresh_words.Goals as goal

pub returns : goal.returns
returns c = fresh_shows_start
