use Rattle.channel_meaning.proofs.Tallies.{tallies_all}
use Rattle.channel_meaning.proofs.tallies_all.Goals as goal

pub returns : goal.returns
returns c = tallies_all c.gives_a_run.ensures
