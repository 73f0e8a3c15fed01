use Rattle.subscriber.proofs.Windows.{alone}
use Rattle.subscriber.proofs.listening.setup_offer.alone_gets_all.Goals as goal

pub returns : goal.returns
returns c = alone
