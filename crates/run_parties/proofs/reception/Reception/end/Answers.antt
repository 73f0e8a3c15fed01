use Rattle.std.proofs.Common.{◌∙◌, ℕ, ap, sym, subst}
use Rattle.std.specs.Arc.{arc_value}
use Rattle.std.specs.Option.{option_map}
use Rattle.receiver.specs.CoreLives.{HasDealt}
use Rattle.receiver.specs.Representing.{Core}
use Rattle.run_parties.specs.Receptions.{EndsLife, ReceptionState}
use Rattle.run_parties.specs.Tallies.{Counted}
use Rattle.run_parties.proofs.Living.{ends_none, ends_polled}
use Rattle.run_parties.proofs.reception.Reception.end.Goals as goal
use Rattle.run_parties.proofs.reception.Reception.end.Goals.{in-None, in-Some-poller}

pub returns-clause-lived : goal.returns-clause-lived
returns-clause-lived g c =
    let i = c.self.invariant in let m = c.self.inside in let device = g.D.Datagrams.device in
    let r : ReceptionState g.row.D.Denot = record { core = m.agent.core; duty = m.duty; image = option_map arc_value m.image; fault = m.fault } in
    subst (λ d. EndsLife g.N.Begins.receiver g.N.Begins.tells g.N.Begins.device (device d) c.match-poller-5.tally.0 c.match-poller-5.tally.1) (sym c.into_device.ensures)
    (elim c.match-poller-5.branch [
      | in-None w ↦ subst (λ (p : Counted × ℕ). EndsLife g.N.Begins.receiver g.N.Begins.tells g.N.Begins.device (device m.duty.device) p.0 p.1) (sym w.tally-is) (ends_none device g.N.Begins.receiver g.N.Begins.device g.N.Begins.tells r w.new.result c.in_default.not-Some i.received w.new.ensures)
      | in-Some-poller w ↦ subst (λ (p : Counted × ℕ). EndsLife g.N.Begins.receiver g.N.Begins.tells g.N.Begins.device (device m.duty.device) p.0 p.1) (sym w.tally-is)
          (ends_polled device g.N.Begins.receiver g.N.Begins.device g.N.Begins.tells r w.end.new.core w.end.result.0 w.end.result.1 c.in_default.not-Some i.received (w.end.ensures.core ∙ ap (λ (x : Core). record x { image = w.end.new.core.image }) c.into_core-core.ensures) (subst (λ (x : Core). HasDealt x.image w.end.new.core.image) c.into_core-core.ensures w.end.ensures.dealt) w.end.ensures.polled)
    ])
