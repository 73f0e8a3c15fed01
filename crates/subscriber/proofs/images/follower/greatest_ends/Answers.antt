use Rattle.subscriber.proofs.Ends.{greatest_end}
use Rattle.subscriber.proofs.images.follower.greatest_ends.Goals as goal

pub returns : goal.returns
returns c = greatest_end
