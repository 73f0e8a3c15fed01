use Rattle.log_messages.proofs.Committing.{commits_its_claims}
use Rattle.log_messages.proofs.law.commits_its_claims.Goals as goal

pub returns : goal.returns
returns c = commits_its_claims
