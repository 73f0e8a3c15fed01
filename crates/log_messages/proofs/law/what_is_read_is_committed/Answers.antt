use Rattle.log_messages.proofs.Committed.{read_is_committed}
use Rattle.log_messages.proofs.law.what_is_read_is_committed.Goals as goal

pub returns : goal.returns
returns c = read_is_committed
