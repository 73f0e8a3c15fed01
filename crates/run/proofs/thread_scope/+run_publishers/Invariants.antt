use Rattle.std.proofs.Common.{vec_len}
use Rattle.run.proofs.thread_scope.+run_publishers.Given as goal

abbrev pub decreases-run_publishers : goal.decreases-run_publishers
decreases-run_publishers g l = vec_len l.waiting
