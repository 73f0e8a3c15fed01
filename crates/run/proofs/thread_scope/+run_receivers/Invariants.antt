use Rattle.std.proofs.Common.{vec_len}
use Rattle.run.proofs.thread_scope.+run_receivers.Given as goal

abbrev pub decreases-run_receivers : goal.decreases-run_receivers
decreases-run_receivers g l = vec_len l.waiting
