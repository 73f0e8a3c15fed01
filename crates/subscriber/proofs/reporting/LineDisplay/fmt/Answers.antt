use Rattle.subscriber.proofs.reporting.LineDisplay.fmt.Goals as goal

pub returns-in-Again-clause-writes : goal.returns-in-Again-clause-writes
returns-in-Again-clause-writes g c = rw c.in-Again.is c.write-in-Again.ensures.writes

pub returns-in-Lost-clause-writes : goal.returns-in-Lost-clause-writes
returns-in-Lost-clause-writes g c = rw c.in-Lost.is c.write-in-Lost.ensures.writes

pub returns-in-Closed-clause-writes : goal.returns-in-Closed-clause-writes
returns-in-Closed-clause-writes g c = rw c.in-Closed.is c.write-in-Closed.ensures.writes

pub returns-in-Counters-clause-writes : goal.returns-in-Counters-clause-writes
returns-in-Counters-clause-writes g c = rw c.in-Counters.is c.write-in-Counters.ensures.writes
