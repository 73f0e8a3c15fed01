use Rattle.frames.proofs.Together.{is_only_datagram}
use Rattle.frames.proofs.OneFault.{is_refused}
use Rattle.frames.proofs.datagram.check_datagram.Goals as goal

pub returns-clause-only : goal.returns-clause-only
returns-clause-only c = λ frames d. is_only_datagram c.args.bytes.now c.count.result frames c.count.ensures.found c.count.ensures.fault d

pub returns-clause-refused : goal.returns-clause-refused
returns-clause-refused c = λ fault h. is_refused c.args.bytes.now c.count.result fault c.count.ensures.found c.count.ensures.fault h
