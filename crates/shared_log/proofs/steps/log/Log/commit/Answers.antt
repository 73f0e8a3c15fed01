use Rattle.std.proofs.Common.{sym, ap, ◌∙◌, subst}
use Rattle.publication.specs.declared.pass.Pass.{Pass}
use Rattle.publication.specs.Steps.{blank}
use Rattle.log_memory.specs.Steps.{AreApart, Mine}
use Rattle.log_memory.specs.declared.view.Part.{Part}
use Rattle.log_memory.specs.declared.view.Room.{Room}
use Rattle.shared_log.specs.Steps.Handles.{LogId, LogValue, PublisherValue}
use Rattle.shared_log.proofs.Resting.{apart_less, here, rested}
use Rattle.shared_log.proofs.steps.log.Log.commit.Goals as goal

pub commit_open-requires-clause-holds : goal.commit_open-requires-clause-holds
commit_open-requires-clause-holds c = here c.self.inside.memory.table.shared.key c.pass.inside.key.identity c.pass.inside.seat.me (ap (λ (p : PublisherValue). p.pass.identity) c.pass.view_is ∙ c.requires.fits.identity ∙ sym (ap (λ (l : LogValue). l.identity) c.self.view_is) ∙ sym c.self.invariant.identity_is) (ap (λ (p : PublisherValue). p.of.region) c.pass.view_is ∙ ap (λ (i : LogId). i.region) c.requires.fits.table ∙ sym (ap (λ (l : LogValue). l.table.region) c.self.view_is)) c.pass.invariant

pub invariant_of-pass : goal.invariant_of-pass
invariant_of-pass c =
    let m : Mine = c.pass.inside.seat.me in let n : Mine = c.commit_open.new.seat.me in let s = c.commit_open.ensures.stores in let o = c.requires.open in let h = c.pass.invariant in
    let was = ap (λ (p : PublisherValue). p.pass) c.pass.view_is in let drafts = ap (λ (p : Pass). p.work.drafts) was ∙ o.drafts in
    let pass = s.fills o.front o.cut o.others o.some drafts in
    rested c.self.inside.memory.table.shared.key c.pass.inside.key.identity n (ap (λ (p : Pass). p.identity) pass ∙ ap (λ (p : PublisherValue). p.pass.identity) c.pass.view_is ∙ c.requires.fits.identity ∙ sym (ap (λ (l : LogValue). l.identity) c.self.view_is) ∙ sym c.self.invariant.identity_is) (ap (λ (p : PublisherValue). p.of.region) c.pass.view_is ∙ ap (λ (i : LogId). i.region) c.requires.fits.table ∙ sym (ap (λ (l : LogValue). l.table.region) c.self.view_is)) (ap (λ (x : Part). x.has) s.part ∙ h.idle.0, s.parked ∙ h.idle.1) (ap (λ (x : Room). x.out) s.room ∙ h.none_out) s.holds
    (subst AreApart (sym (ap (λ (p : Pass). p.work.drafts) pass)) (apart_less o.front (blank c.args.draft.now.start o.cut) o.others (subst AreApart drafts h.apart)))
