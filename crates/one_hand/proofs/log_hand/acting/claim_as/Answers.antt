use Rattle.std.proofs.Common.{◌∙◌}
use Rattle.one_hand.proofs.InHand.{claim_accepts, claim_refuses}
use Rattle.one_hand.proofs.log_hand.acting.claim_as.Goals as goal

pub returns-clause-accepted : goal.returns-clause-accepted
returns-clause-accepted c = claim_accepts c.args.log.now _ c.args.all.now c.renumber.new.publisher c.try_claim.new.pass c.args.number c.requires.number c.requires.free c.renumber.ensures c.try_claim.ensures.called.moved.still (c.try_claim.ensures.called.moved.same ∙ c.new-words.ensures) c.args.size c.try_claim.result _ c.try_claim.ensures.called.took c.requires.short c.try_claim.ensures.accepted

pub returns-clause-refused : goal.returns-clause-refused
returns-clause-refused c = claim_refuses c.args.log.now _ c.args.all.now c.renumber.new.publisher c.try_claim.new.pass c.args.number c.requires.number c.requires.free c.renumber.ensures c.try_claim.ensures.called.moved.still (c.try_claim.ensures.called.moved.same ∙ c.new-words.ensures) c.args.size c.try_claim.result _ c.try_claim.ensures.called.took c.requires.short c.try_claim.ensures.refused
