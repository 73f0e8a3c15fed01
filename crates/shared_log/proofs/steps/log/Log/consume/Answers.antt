use Rattle.std.proofs.Common.{sym, ap, ◌∙◌, subst}
use Rattle.publication.specs.declared.pass.Pass.{Pass}
use Rattle.log_rule.specs.Readings.{Consumes, IsConsumer}
use Rattle.log_memory.specs.declared.view.Part.{Part}
use Rattle.log_memory.specs.Steps.{Mine}
use Rattle.shared_log.specs.Steps.Handles.{PublisherValue}
use Rattle.shared_log.proofs.Resting.{rests_on}
use Rattle.shared_log.proofs.steps.log.Log.consume.Goals as goal

pub invariant_of-pass : goal.invariant_of-pass
invariant_of-pass c =
    let m : Mine = c.pass.inside.seat.me in let t = c.consume.ensures.told in let h = c.pass.invariant in let at = c.requires.consumer in
    let after = (t.told.3 at.reading (subst (λ (p : PublisherValue). IsConsumer p.pass c.args.consumer.now.place at.reading) (sym c.pass.view_is) at.is)).after in
    rests_on c.pass.inside.key.identity m c.consume.new.seat.me h (ap (λ (x : Part). x.has) t.part ∙ h.idle.0, t.parked ∙ h.idle.1) t.carried t.room (ap (λ (p : Pass). p.work.drafts) after) (ap (λ (p : Pass). p.identity) after)

pub returns-clause-told : goal.returns-clause-told
returns-clause-told c = subst (λ (p : PublisherValue). Consumes p.pass c.args.consumer.now.place c.args.end c.consume.new.seat.me.0.view.pass) c.pass.view_is c.consume.ensures.told.told.3
