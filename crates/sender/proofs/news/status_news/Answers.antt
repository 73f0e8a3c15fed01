use Rattle.std.proofs.Common.{rules, ap}
use Rattle.frames.specs.Frames.{asks_of, status_of}
use Rattle.theory.specs.Wire.{SM}
use Rattle.sender.proofs.news.status_news.Goals as goal

pub returns-then-asks : goal.returns-then-asks
returns-then-asks c = (status_of c.args.status.now, ap (λ asks. SM (asks_of asks) (status_of c.args.status.now)) c.if-asks.true, search rules)
