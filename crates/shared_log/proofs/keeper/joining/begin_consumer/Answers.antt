use Rattle.std.proofs.Common.{subst, ◌≤◌}
use Rattle.theory.specs.Bytes.{Identity}
use Rattle.theory.specs.Position.{max_position}
use Rattle.shared_log.specs.Keepers.{KeeperValue, KnowsWho}
use Rattle.shared_log.proofs.Joined.{begins_by, may_begin}
use Rattle.shared_log.proofs.keeper.joining.begin_consumer.Goals as goal

pub begin_there-requires-clause-may : goal.begin_there-requires-clause-may
begin_there-requires-clause-may c = may_begin c.args.log.now c.args.keeper.now c.sweep-position.new.keeper c.args.number c.sweep-position.result c.keeper.inside.there (subst (λ (k : KeeperValue). KnowsWho k.held.pass c.keeper.inside.there) c.keeper.view_is c.keeper.invariant.knows) c.sweep-position.ensures c.requires.low c.requires.free

pub returns-clause-begins : goal.returns-clause-begins
returns-clause-begins c = begins_by c.args.log.now c.args.keeper.now c.sweep-position.new.keeper c.begin_there.new.keeper c.args.number c.args.place c.sweep-position.result c.sweep-position.ensures c.requires.low c.requires.free c.begin_there.ensures.becomes c.begin_there.ensures.controls c.begin_there.ensures.once

pub returns-clause-low : goal.returns-clause-low
returns-clause-low c = subst (λ (i : Identity). c.sweep-position.result ≤ max_position i.geometry) c.requires.fits.identity c.sweep-position.ensures.stands.low
