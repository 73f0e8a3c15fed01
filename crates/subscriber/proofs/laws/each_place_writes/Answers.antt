use Rattle.subscriber.proofs.Alone.{each_place_writes}
use Rattle.subscriber.proofs.laws.each_place_writes.Goals as goal

pub returns : goal.returns
returns c = each_place_writes
