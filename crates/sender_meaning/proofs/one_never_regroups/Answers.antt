use Rattle.sender_meaning.proofs.StreamLiving.{one_never_regroups}
use Rattle.sender_meaning.proofs.one_never_regroups.Goals as goal

pub returns : goal.returns
returns c = one_never_regroups
