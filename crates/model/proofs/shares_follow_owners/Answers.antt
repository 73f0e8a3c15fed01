use Rattle.model.proofs.Shares.{have_no_share, retires_for_good, shares_follow}
use Rattle.model.proofs.shares_follow_owners.Goals as goal

pub returns-clause-shares : goal.returns-clause-shares
returns-clause-shares c = shares_follow

pub returns-clause-retired : goal.returns-clause-retired
returns-clause-retired c = retires_for_good

pub returns-clause-nothing : goal.returns-clause-nothing
returns-clause-nothing c = have_no_share
