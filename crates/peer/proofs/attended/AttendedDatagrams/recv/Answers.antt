use Rattle.std.proofs.Common.{rules}
use Rattle.peer.proofs.Called.{asked_once}
use Rattle.peer.proofs.attended.AttendedDatagrams.recv.Goals as goal

pub returns-in-Some-clause-takes : goal.returns-in-Some-clause-takes
returns-in-Some-clause-takes g c = search rules

pub returns-clause-takes : goal.returns-clause-takes
returns-clause-takes g c = search rules

pub returns-in-Some-clause-lives : goal.returns-in-Some-clause-lives
returns-in-Some-clause-lives g c = asked_once g.D.Datagrams.device g.D.Datagrams.tells c.args.self.now _ c.args.buffer.now _ c.put_nak.new.buffer (returns-in-Some-clause-takes g c)

pub returns-clause-lives : goal.returns-clause-lives
returns-clause-lives g c = asked_once g.D.Datagrams.device g.D.Datagrams.tells c.args.self.now c.find.new.self c.args.buffer.now _ c.find.new.buffer (returns-clause-takes g c)
