use Rattle.std.proofs.Common.{subst}
use Rattle.one_hand.specs.Legal.{IsStream}
use Rattle.log_tests.proofs.plain_log.PlainLogClaims.is_whole.Goals as goal

pub returns : goal.returns
returns c = subst IsStream c.self.view_is c.self.invariant.0.whole.legal
