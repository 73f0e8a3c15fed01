use Rattle.script_meaning.proofs.Counted.{always_counted, one_book}
use Rattle.script_meaning.proofs.shares_are_counted.Goals as goal

pub returns-clause-counted : goal.returns-clause-counted
returns-clause-counted c = always_counted

pub returns-clause-book : goal.returns-clause-book
returns-clause-book c = one_book
