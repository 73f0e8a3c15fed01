use Rattle.std.proofs.Common.{◌<◌, subst, arith}
use Rattle.shared_log.specs.Keepers.{KeeperValue, KnowsWho}
use Rattle.shared_log.proofs.Joined.{there_below}
use Rattle.shared_log.proofs.keeper.Keeper.has_other.Goals as goal

pub returns-clause-none : goal.returns-clause-none
returns-clause-none c _ j h =
    let low : j < 8 = there_below c.args.self.now.held.pass c.self.inside.there (subst (λ (k : KeeperValue). KnowsWho k.held.pass c.self.inside.there) c.self.view_is c.self.invariant.knows) j h in
    c.loop-other.invariant j (let past = c.loop-other-test.false in omega arith) h
