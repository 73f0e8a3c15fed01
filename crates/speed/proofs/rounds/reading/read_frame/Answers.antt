use Rattle.speed.proofs.Followers.{read_message, read_padding}
use Rattle.speed.proofs.rounds.reading.read_frame.Goals as goal

pub returns-in-Data-clause-counted : goal.returns-in-Data-clause-counted
returns-in-Data-clause-counted c = read_message c.args.log.now c.args.reader.now c.in_ok-head.head c.next.new.reader c.advance.new.reader c.in_ok-head.ensures.found.finds c.advance.ensures.advances c.in-Data.is

pub returns-in-Pad-clause-counted : goal.returns-in-Pad-clause-counted
returns-in-Pad-clause-counted c = read_padding c.args.log.now c.args.reader.now c.in_ok-head.head c.next.new.reader c.advance.new.reader c.in_ok-head.ensures.found.finds c.advance.ensures.advances c.in-Pad.is
