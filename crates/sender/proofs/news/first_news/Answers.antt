use Rattle.std.proofs.Common.{sym, ap, subst}
use Rattle.theory.specs.Wire.{Wire}
use Rattle.frames.specs.Frames.{wire}
use Rattle.sender.specs.FirstNews.{FirstTells, news_of}
use Rattle.sender.proofs.news.first_news.Goals as goal

pub returns-in-Status : goal.returns-in-Status
returns-in-Status c = subst (λ (w : Wire). FirstTells c.args.identity.now w (news_of c.status_news.result)) (sym (ap wire c.in-Status.is)) c.status_news.ensures
