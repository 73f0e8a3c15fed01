use Rattle.std.proofs.Common.{subst}
use Rattle.shared_log.specs.Keepers.{IsKeeping, KeeperValue}
use Rattle.shared_log.proofs.Joined.{joins_by}
use Rattle.shared_log.proofs.keeper.Keeper.join.Goals as goal

pub returns-clause-joins : goal.returns-clause-joins
returns-clause-joins c = joins_by c.args.log.now c.args.self.now c.begin_consumer-position.new.keeper c.deal_consumer.new.keeper c.deal_consumer.result c.in-Some.number c.begin_consumer-position.result c.begin_consumer-position.ensures.begins (subst (λ (k : KeeperValue). IsKeeping k.held.pass k.limit k.cleaned) c.self.view_is c.self.invariant.keeping) c.in-Some.ensures.some c.deal_consumer.ensures.becomes c.deal_consumer.ensures.controls c.deal_consumer.ensures.steps c.deal_consumer.ensures.reader
