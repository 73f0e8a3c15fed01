use Rattle.subscriber.proofs.Lost.{lacking}
use Rattle.subscriber.proofs.images.session.lacks_where_lost.Goals as goal

pub returns : goal.returns
returns c = lacking
