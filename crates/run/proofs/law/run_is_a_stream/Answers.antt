use Rattle.run.proofs.Streams.{run_is_a_stream}
use Rattle.run.proofs.law.run_is_a_stream.Goals as goal

pub returns : goal.returns
returns c = run_is_a_stream c.closed_log_is_a_stream.ensures c.commits_its_claims.ensures c.gives_a_run.ensures
