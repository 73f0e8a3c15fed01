use Rattle.std.proofs.Common.{arith}
use Rattle.log_rule.specs.Keepings.{LearnsLimit, Raises, keeping}
use Rattle.log_memory.proofs.HeadPlaces.{at_any}
use Rattle.log_memory.proofs.Kept.{steps_keep}
use Rattle.log_memory.proofs.keeper.raise.Goals as goal

pub store-requires : goal.store-requires
store-requires c = (c.requires.seat.of, (let w = c.requires.seat.words in omega arith), at_any c.args.table.now.key c.args.table.now.table_id.slots c.args.seat.now.id c.args.seat.now.me 0 c.args.word (λ _. c.args.word) (λ a b. keeping (LearnsLimit c.args.word) (λ v w. Raises v c.args.word w) a b) (steps_keep.raise c.args.table.now.key c.args.seat.now.id c.args.word c.args.seat.now.me c.requires.may c.requires.parts c.requires.idle c.args.table.now.table_id.slots))
