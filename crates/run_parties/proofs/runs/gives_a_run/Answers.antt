use Rattle.run_parties.proofs.OfARun.{gives_a_run}
use Rattle.run_parties.proofs.runs.gives_a_run.Goals as goal

pub returns : goal.returns
returns c = gives_a_run c.reads_a_run.ensures.run c.reads_further.ensures.hears c.reads_further.ensures.passes
