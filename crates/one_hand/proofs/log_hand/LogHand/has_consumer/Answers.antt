use Rattle.std.proofs.Common.{subst}
use Rattle.one_hand.specs.Stream.{HasConsumer, IsVacant, Stream}
use Rattle.one_hand.proofs.Joined.{none_is, there_is}
use Rattle.one_hand.proofs.log_hand.LogHand.has_consumer.Goals as goal

pub returns-clause-there : goal.returns-clause-there
returns-clause-there c is = subst (λ (s : Stream). HasConsumer s c.args.reader) c.self.view_is (there_is c.self.inside.log c.self.inside.all c.self.inside.held _ c.self.invariant c.args.reader c.requires is)

pub returns-clause-none : goal.returns-clause-none
returns-clause-none c none = subst (λ (s : Stream). IsVacant s c.args.reader) c.self.view_is (none_is c.self.inside.log c.self.inside.all c.self.inside.held _ c.self.invariant c.args.reader c.requires none)
