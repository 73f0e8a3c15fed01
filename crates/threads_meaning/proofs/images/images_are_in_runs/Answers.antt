use Rattle.threads_meaning.proofs.Imaged.{tables_are_in_runs}
use Rattle.threads_meaning.proofs.images.images_are_in_runs.Goals as goal

pub returns : goal.returns
returns c = tables_are_in_runs c.every_run.ensures.rebuilt c.every_run.ensures.bounds c.every_run.ensures.polled
