use Rattle.std.proofs.Common.{◌∙◌, ap, sym}
use Rattle.std.specs.Prelude.{slice_index}
use Rattle.shared_log.specs.Keepers.{KeeperValue, there_of}
use Rattle.shared_log.proofs.Joined.{flag_is}
use Rattle.shared_log.proofs.keeper.Keeper.has_consumer.Goals as goal

pub returns : goal.returns
returns c = ap (λ (k : KeeperValue). slice_index (there_of k) c.args.number) (sym c.self.view_is) ∙ ap (λ l. slice_index l c.args.number) c.self.invariant.knows.flags ∙ flag_is c.self.inside.there c.args.number
