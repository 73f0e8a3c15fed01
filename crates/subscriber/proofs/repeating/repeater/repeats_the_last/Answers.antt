use Rattle.subscriber.proofs.Repeaters.{repeats_the_last}
use Rattle.subscriber.proofs.repeating.repeater.repeats_the_last.Goals as goal

pub returns : goal.returns
returns c = repeats_the_last
