use Rattle.std.proofs.Common.{◌∙◌}
use Rattle.one_hand.proofs.InHand.{commit_ok}
use Rattle.one_hand.proofs.log_hand.acting.commit_as.Goals as goal

pub returns : goal.returns
returns c = commit_ok c.args.log.now _ c.args.all.now c.renumber.new.publisher c.commit.new.pass c.args.number c.requires.number c.requires.free c.renumber.ensures c.commit.ensures.part.moved.still (c.commit.ensures.part.moved.same ∙ c.new-words.ensures) _ c.commit.ensures.part.took.noted c.commit.ensures.part.took.steps c.commit.ensures.part.took.call c.args.held c.args.payload.now c.commit.result c.requires.may c.type_inv.payload c.requires.size c.commit.ensures.committed c.commit.ensures.end
