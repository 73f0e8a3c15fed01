use Rattle.channel.proofs.Addresses.{last_cut, no_cut}
use Rattle.channel.proofs.endpoint.cut.Goals as goal

pub returns-clause-cut : goal.returns-clause-cut
returns-clause-cut c = last_cut c.args.value.now c.rsplit_once.result c.rsplit_once.ensures.cases

pub returns-clause-none : goal.returns-clause-none
returns-clause-none c = no_cut c.args.value.now c.rsplit_once.result c.rsplit_once.ensures.cases
