use Rattle.std.proofs.Common.{rules}
use Rattle.peer.proofs.Called.{given_once}
use Rattle.peer.proofs.attended.AttendedDatagrams.send.Goals as goal

pub returns-clause-lives : goal.returns-clause-lives
returns-clause-lives g c = given_once g.D.Datagrams.device g.D.Datagrams.tells c.args.self.now _ c.args.datagram.now c.send.result (search rules) (search rules)
