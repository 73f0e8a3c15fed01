use Rattle.receiver.proofs.Heard.{hears_further, passes_read, reads_further}
use Rattle.receiver.proofs.lives.reads_further.Goals as goal

pub returns-clause-reads : goal.returns-clause-reads
returns-clause-reads c = reads_further

pub returns-clause-hears : goal.returns-clause-hears
returns-clause-hears c = hears_further

pub returns-clause-passes : goal.returns-clause-passes
returns-clause-passes c = passes_read
