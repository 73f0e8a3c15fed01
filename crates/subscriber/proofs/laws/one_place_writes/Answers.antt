use Rattle.subscriber.proofs.Alone.{one_place_writes}
use Rattle.subscriber.proofs.laws.one_place_writes.Goals as goal

pub returns : goal.returns
returns c = one_place_writes
