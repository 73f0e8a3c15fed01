use Rattle.std.proofs.Common.{◌∙◌}
use Rattle.one_hand.proofs.InHand.{offer_is}
use Rattle.one_hand.proofs.log_hand.acting.offer_as.Goals as goal

pub returns : goal.returns
returns c = offer_is c.args.log.now _ c.args.all.now c.renumber.new.publisher c.offer.new.pass c.args.number c.requires.number c.requires.free c.renumber.ensures c.offer.ensures.called.moved.still (c.offer.ensures.called.moved.same ∙ c.new-words.ensures) c.args.message.now c.offer.result _ c.offer.ensures.called.took c.type_inv.message c.requires.short c.offer.ensures.accepted c.offer.ensures.refused
