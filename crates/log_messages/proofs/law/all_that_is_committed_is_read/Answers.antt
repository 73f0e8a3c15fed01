use Rattle.log_messages.proofs.All.{reads_all}
use Rattle.log_messages.proofs.law.all_that_is_committed_is_read.Goals as goal

pub returns : goal.returns
returns c = reads_all
