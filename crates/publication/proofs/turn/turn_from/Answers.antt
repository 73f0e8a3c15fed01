use Rattle.publication.proofs.Turned.{turned_from}
use Rattle.publication.proofs.turn.turn_from.Goals as goal

pub returns-clause-turns : goal.returns-clause-turns
returns-clause-turns g c = turned_from _ _ _ c.args.count c.if-count.false c.rotate.ensures.turns
