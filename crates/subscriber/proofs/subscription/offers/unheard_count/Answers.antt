use Rattle.std.proofs.Common.{rules}
use Rattle.std.proofs.lemmas.Iterator.{YieldsList-from_slice}
use Rattle.std.proofs.lemmas.Iterator.Consumers.{YieldsList-from_filter, count_from_yields_List}
use borrow.Author.Tests.{tests}
use Rattle.subscriber.specs.Choosing.{is_unheard}
use Rattle.subscriber.proofs.subscription.offers.unheard_count.Goals as goal

pub returns : goal.returns
returns c = count_from_yields_List c.filter.result c.count.result c.count.ensures.ran (YieldsList-from_filter _ is_unheard (YieldsList-from_slice c.args.sessions.now cc) c.filter.ensures.closure (λ x r q k. search (rules, tests)))
