use Rattle.subscriber.proofs.Alone.{one_place_breaks}
use Rattle.subscriber.proofs.laws.one_place_breaks.Goals as goal

pub returns : goal.returns
returns c = one_place_breaks
