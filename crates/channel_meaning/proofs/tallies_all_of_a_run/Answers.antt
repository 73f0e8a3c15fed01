use Rattle.channel_meaning.proofs.Tallies.{tallies_all_of_a_run}
use Rattle.channel_meaning.proofs.tallies_all_of_a_run.Goals as goal

pub returns : goal.returns
returns c = tallies_all_of_a_run c.run_is_a_stream.ensures
