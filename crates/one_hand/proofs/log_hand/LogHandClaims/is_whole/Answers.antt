use Rattle.std.proofs.Common.{subst}
use Rattle.one_hand.specs.Legal.{IsStream}
use Rattle.one_hand.proofs.Handing.{hand_whole}
use Rattle.one_hand.proofs.log_hand.LogHandClaims.is_whole.Goals as goal

pub returns : goal.returns
returns c = subst IsStream c.self.view_is (hand_whole c.self.inside.log c.self.inside.all c.self.inside.held _ c.self.invariant)
