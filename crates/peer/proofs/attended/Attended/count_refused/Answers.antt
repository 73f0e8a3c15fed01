use Rattle.peer.proofs.Refused.{by_fault, by_none}
use Rattle.peer.proofs.attended.Attended.count_refused.Goals as goal

pub returns-in-Err-clause-counts : goal.returns-in-Err-clause-counts
returns-in-Err-clause-counts g c =
    by_fault c.args.self.now.watch c.refuse.new.self.watch c.args.datagram.now c.check_datagram.result c.in-Err.fault c.in-Err.is
    c.check_datagram.ensures.only c.check_datagram.ensures.refused c.refuse.ensures.refused

pub returns-in-Ok-clause-counts : goal.returns-in-Ok-clause-counts
returns-in-Ok-clause-counts g c =
    by_none c.args.self.now.watch c.args.datagram.now c.check_datagram.result c.in-Ok.field-0 c.in-Ok.is c.check_datagram.ensures.refused
