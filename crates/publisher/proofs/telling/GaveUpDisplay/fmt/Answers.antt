use Rattle.publisher.proofs.telling.GaveUpDisplay.fmt.Goals as goal

pub returns-in-LeftBehind-clause-writes : goal.returns-in-LeftBehind-clause-writes
returns-in-LeftBehind-clause-writes g c = rw c.in-LeftBehind.is c.write-in-LeftBehind.ensures.writes
