use Rattle.std.proofs.Common.{sym, ap, ◌∙◌}
use Rattle.log_rule.specs.declared.claims.view.View.{View}
use Rattle.log_memory.specs.declared.view.Room.{Room}
use Rattle.shared_log.specs.Steps.Handles.{LogId, LogValue, PublisherValue}
use Rattle.shared_log.proofs.Resting.{here, rested}
use Rattle.shared_log.proofs.steps.log.Log.take_over.Goals as goal

pub take_over-requires-clause-holds : goal.take_over-requires-clause-holds
take_over-requires-clause-holds c = (
  here c.self.inside.memory.table.shared.key c.pass.inside.key.identity c.pass.inside.seat.me (ap (λ (p : PublisherValue). p.pass.identity) c.pass.view_is ∙ c.requires.fits.identity ∙ sym (ap (λ (l : LogValue). l.identity) c.self.view_is) ∙ sym c.self.invariant.identity_is) (ap (λ (p : PublisherValue). p.of.region) c.pass.view_is ∙ ap (λ (i : LogId). i.region) c.requires.fits.table ∙ sym (ap (λ (l : LogValue). l.table.region) c.self.view_is)) c.pass.invariant,
  here c.self.inside.memory.table.shared.key c.other.inside.key.identity c.other.inside.seat.me (ap (λ (p : PublisherValue). p.pass.identity) c.other.view_is ∙ c.requires.other.identity ∙ sym (ap (λ (l : LogValue). l.identity) c.self.view_is) ∙ sym c.self.invariant.identity_is) (ap (λ (p : PublisherValue). p.of.region) c.other.view_is ∙ ap (λ (i : LogId). i.region) c.requires.other.table ∙ sym (ap (λ (l : LogValue). l.table.region) c.self.view_is)) c.other.invariant,
)

pub invariant_of-pass : goal.invariant_of-pass
invariant_of-pass c =
    let t = c.take_over.ensures.takes in
    rested c.self.inside.memory.table.shared.key c.pass.inside.key.identity c.take_over.new.seat.me (ap (λ (v : View). v.pass.identity) t.view ∙ ap (λ (p : PublisherValue). p.pass.identity) c.pass.view_is ∙ c.requires.fits.identity ∙ sym (ap (λ (l : LogValue). l.identity) c.self.view_is) ∙ sym c.self.invariant.identity_is) (ap (λ (p : PublisherValue). p.of.region) c.pass.view_is ∙ ap (λ (i : LogId). i.region) c.requires.fits.table ∙ sym (ap (λ (l : LogValue). l.table.region) c.self.view_is)) t.idle (ap (λ (r : Room). r.out) t.room ∙ c.pass.invariant.none_out) t.holds t.apart
