use Rattle.model.proofs.Asked.{resends_asked}
use Rattle.model.proofs.Datagrams.{cycle_may_send}
use Rattle.model.proofs.Sizes.{groups_well}
use Rattle.model.proofs.Spent.{cycle_sends_all, resends_first}
use Rattle.model.proofs.cycle_sends.Goals as goal

pub returns-clause-allowed : goal.returns-clause-allowed
returns-clause-allowed c = cycle_may_send

pub returns-clause-grouped : goal.returns-clause-grouped
returns-clause-grouped c = groups_well

pub returns-clause-resent : goal.returns-clause-resent
returns-clause-resent c = resends_first

pub returns-clause-asked : goal.returns-clause-asked
returns-clause-asked c = resends_asked

pub returns-clause-all : goal.returns-clause-all
returns-clause-all c = cycle_sends_all
