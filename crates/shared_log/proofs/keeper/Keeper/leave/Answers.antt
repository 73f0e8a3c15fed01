use Rattle.std.proofs.Common.{ℕ, subst}
use Rattle.shared_log.specs.Joining.{Leaves}
use Rattle.shared_log.proofs.Joined.{leaves_by}
use Rattle.shared_log.proofs.keeper.Keeper.leave.Goals as goal

pub returns-clause-leaves : goal.returns-clause-leaves
returns-clause-leaves c = subst (λ (n : ℕ). Leaves c.args.self.now n c.end_consumer.new.keeper) c.number-number.ensures (leaves_by c.args.log.now c.args.self.now c.take_back.new.keeper c.end_consumer.new.keeper c.args.reader c.number-number.result c.requires.alone c.take_back.ensures.becomes c.take_back.ensures.controls c.take_back.ensures.steps c.end_consumer.ensures)
