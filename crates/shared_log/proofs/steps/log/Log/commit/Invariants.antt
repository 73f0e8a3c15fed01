use Rattle.std.proofs.Common.{◌/◌}
use Rattle.log_memory.specs.Open.{front_of, others_of}
use Rattle.shared_log.proofs.steps.log.Log.commit.Given as goal

abbrev pub ghosts-commit_open : goal.ghosts-commit_open
ghosts-commit_open a = record { front = front_of a.draft.now.start a.seat.now.me.0.view.pass.work.drafts; others = others_of a.draft.now.start a.seat.now.me.0.view.pass.work.drafts; carried = a.seat.now.me.1; slots = a.draft.now.bytes / 4 }
