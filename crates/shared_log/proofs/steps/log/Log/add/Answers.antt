use Rattle.std.proofs.Common.{sym, ap, ◌∙◌}
use Rattle.log_memory.specs.declared.view.Part.{Part}
use Rattle.log_memory.specs.declared.view.Room.{Room}
use Rattle.shared_log.specs.Steps.Handles.{LogId, LogValue, PublisherValue}
use Rattle.shared_log.proofs.Resting.{here, rested}
use Rattle.shared_log.proofs.steps.log.Log.add.Goals as goal

pub add_open-requires-clause-holds : goal.add_open-requires-clause-holds
add_open-requires-clause-holds c = here c.self.inside.memory.table.shared.key c.pass.inside.key.identity c.pass.inside.seat.me (ap (λ (p : PublisherValue). p.pass.identity) c.pass.view_is ∙ c.requires.fits.identity ∙ sym (ap (λ (l : LogValue). l.identity) c.self.view_is) ∙ sym c.self.invariant.identity_is) (ap (λ (p : PublisherValue). p.of.region) c.pass.view_is ∙ ap (λ (i : LogId). i.region) c.requires.fits.table ∙ sym (ap (λ (l : LogValue). l.table.region) c.self.view_is)) c.pass.invariant

pub invariant_of-pass : goal.invariant_of-pass
invariant_of-pass c =
    let s = c.add_open.ensures.told in let h = c.pass.invariant in
    rested c.self.inside.memory.table.shared.key c.pass.inside.key.identity c.add_open.new.seat.me (s.told.2.identity ∙ ap (λ (p : PublisherValue). p.pass.identity) c.pass.view_is ∙ c.requires.fits.identity ∙ sym (ap (λ (l : LogValue). l.identity) c.self.view_is) ∙ sym c.self.invariant.identity_is) (ap (λ (p : PublisherValue). p.of.region) c.pass.view_is ∙ ap (λ (i : LogId). i.region) c.requires.fits.table ∙ sym (ap (λ (l : LogValue). l.table.region) c.self.view_is)) (ap (λ (x : Part). x.has) s.part ∙ h.idle.0, s.parked ∙ h.idle.1) (ap (λ (x : Room). x.out) s.room ∙ h.none_out) c.add_open.ensures.holds s.apart
