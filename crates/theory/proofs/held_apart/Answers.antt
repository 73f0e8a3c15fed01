use Rattle.theory.proofs.Held.{apart_always}
use Rattle.theory.proofs.Parted.{parted_always}
use Rattle.theory.proofs.Marks.{marked_always, mark_greatest}
use Rattle.theory.proofs.held_apart.Goals as goal

pub returns-clause-apart : goal.returns-clause-apart
returns-clause-apart c = apart_always

pub returns-clause-parted : goal.returns-clause-parted
returns-clause-parted c = parted_always

pub returns-clause-marked : goal.returns-clause-marked
returns-clause-marked c = marked_always

pub returns-clause-greatest : goal.returns-clause-greatest
returns-clause-greatest c = mark_greatest
