use Rattle.publisher.proofs.AllPublished.{closes, reads}
use Rattle.publisher.proofs.log_end.closed.Goals as goal

pub close_read-requires-clause-all : goal.close_read-requires-clause-all
close_read-requires-clause-all c =
    let items = rw c.in-Ok.is at c.push.ensures.items in
    closes c.in-Some.log c.requires.0 c.args.end c.args.publisher c.push.new.self.items c.in-Some.is c.requires.1 c.requires.2 c.requires.3 items

pub close_read-requires-clause-reader : goal.close_read-requires-clause-reader
close_read-requires-clause-reader c = reads c.in-Some.log c.requires.0 c.args.end c.in-Some.is c.requires.1
