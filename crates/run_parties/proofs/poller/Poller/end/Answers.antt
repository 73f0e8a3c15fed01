use Rattle.std.proofs.Common.{sym, subst}
use Rattle.receiver.specs.Reading.{IsImage}
use Rattle.run_parties.specs.Receptions.{PollerState}
use Rattle.run_parties.proofs.Polling.{met_core}
use Rattle.run_parties.proofs.poller.Poller.end.Goals as goal

pub returns-clause-polled : goal.returns-clause-polled
returns-clause-polled c =
    let i = c.self.inside in
    met_core c.args.core.now.image c.meet.new.core.image i.reader c.meet.new.self.seat i.tally i.refused (subst (λ (p : PollerState). IsImage c.args.core.now.image p.reader.image) (sym c.self.view_is) c.requires) c.meet.ensures.learns c.self.invariant
