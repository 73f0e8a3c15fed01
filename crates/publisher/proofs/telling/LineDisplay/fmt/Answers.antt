use Rattle.publisher.proofs.telling.LineDisplay.fmt.Goals as goal

pub returns-in-Changed-clause-writes : goal.returns-in-Changed-clause-writes
returns-in-Changed-clause-writes g c = rw c.in-Changed.is c.write.ensures.writes

pub returns-in-LeftBehind-clause-writes : goal.returns-in-LeftBehind-clause-writes
returns-in-LeftBehind-clause-writes g c = rw c.in-LeftBehind.is c.write-in-LeftBehind.ensures.writes

pub returns-in-CameBack-clause-writes : goal.returns-in-CameBack-clause-writes
returns-in-CameBack-clause-writes g c = rw c.in-CameBack.is c.write-in-CameBack.ensures.writes
