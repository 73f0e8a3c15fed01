use Rattle.std.proofs.Common.{◌∙◌}
use Rattle.one_hand.proofs.InHand.{abort_ok}
use Rattle.one_hand.proofs.log_hand.acting.abort_as.Goals as goal

pub returns : goal.returns
returns c = abort_ok c.args.log.now _ c.args.all.now c.renumber.new.publisher c.abort.new.pass c.args.number c.requires.number c.requires.free c.renumber.ensures c.abort.ensures.part.moved.still (c.abort.ensures.part.moved.same ∙ c.new-words.ensures) _ c.abort.ensures.part.took.noted c.abort.ensures.part.took.steps c.abort.ensures.part.took.call c.args.held c.abort.result c.requires.may c.abort.ensures.aborted c.abort.ensures.end
