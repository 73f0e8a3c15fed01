use Rattle.std.proofs.Common.{◌∙◌}
use Rattle.sender.proofs.Resending.Ascending.{found_at, item_at}
use Rattle.sender.proofs.retransmit.starts.first_from.Goals as goal

pub returns : goal.returns
returns c = let at = found_at c.args.position c.args.starts.now.items c.place_of.result c.place_of.ensures.below c.place_of.ensures.above in c.copied.ensures ∙ item_at c.args.starts.now.items c.place_of.result c.get.result c.get.ensures.item.3 ∙ at
