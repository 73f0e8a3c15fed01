use Rattle.run_parties.proofs.Polling.{polled_none}
use Rattle.run_parties.proofs.poller.Poller.new.Goals as goal

pub invariant_of-result : goal.invariant_of-result
invariant_of-result c = polled_none c.args.reader c.new.result c.requires c.new.ensures
