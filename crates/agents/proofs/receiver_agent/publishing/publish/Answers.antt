use Rattle.std.proofs.Common.{◌≤◌, subst, sym}
use Rattle.std.specs.Prelude.{IfSome}
use Rattle.counters.specs.Order.{IsAtMost, IsInOrder}
use Rattle.receiver.specs.declared.positions.Positions.{Positions}
use Rattle.agents.specs.Publishing.{IsUpTo}
use Rattle.agents.proofs.receiver_agent.publishing.publish.Goals as goal

pub publish-requires-clause-order : goal.publish-requires-clause-order
publish-requires-clause-order g c =
    subst IsInOrder (sym c.readings_of.ensures) (subst (λ told. IfSome told (λ (p : Positions). (p.least ≤ p.rebuilt) × (p.rebuilt ≤ p.high_water))) c.in-Some.is c.requires.order)

pub publish-requires-clause-not_back : goal.publish-requires-clause-not_back
publish-requires-clause-not_back g c =
    subst (IsAtMost c.args.writer.now.last) (sym c.readings_of.ensures) (subst (IsUpTo c.args.writer.now.last) c.in-Some.is c.requires.not_back)
