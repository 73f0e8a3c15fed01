use Rattle.publication.proofs.Ordered.{stay_in_order}
use Rattle.publication.proofs.order.claims_in_order.Goals as goal

pub returns : goal.returns
returns c = stay_in_order
