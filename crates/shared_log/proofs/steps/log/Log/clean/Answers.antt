use Rattle.std.proofs.Common.{sym, ap, ◌∙◌, subst}
use Rattle.shared_log.specs.Steps.Handles.{LogId, LogValue, PublisherValue}
use Rattle.shared_log.specs.Steps.Keepers.{MayCleanTo}
use Rattle.shared_log.proofs.Cleaned.{apart_two, idle_three, idle_two, may_free, may_three, rests_four}
use Rattle.shared_log.proofs.Resting.{here}
use Rattle.shared_log.proofs.steps.log.Log.clean.Goals as goal

pub park-requires-clause-holds : goal.park-requires-clause-holds
park-requires-clause-holds c = here c.self.inside.memory.table.shared.key c.pass.inside.key.identity c.pass.inside.seat.me (ap (λ (p : PublisherValue). p.pass.identity) c.pass.view_is ∙ c.requires.fits.identity ∙ sym (ap (λ (l : LogValue). l.identity) c.self.view_is) ∙ sym c.self.invariant.identity_is) (ap (λ (p : PublisherValue). p.of.region) c.pass.view_is ∙ ap (λ (i : LogId). i.region) c.requires.fits.table ∙ sym (ap (λ (l : LogValue). l.table.region) c.self.view_is)) c.pass.invariant

pub free_to-home-requires-clause-may : goal.free_to-home-requires-clause-may
free_to-home-requires-clause-may c = may_free c.self.inside.memory.table.shared.key c.pass.inside.key.identity c.pass.inside.seat.me c.park.new.seat.me c.park.new.seat.me c.park.new.seat.me c.park.new.seat.me c.pass.invariant (ap (λ (p : PublisherValue). p.pass.identity) c.pass.view_is ∙ c.requires.fits.identity ∙ sym (ap (λ (l : LogValue). l.identity) c.self.view_is) ∙ sym c.self.invariant.identity_is) (ap (λ (p : PublisherValue). p.of.region) c.pass.view_is ∙ ap (λ (i : LogId). i.region) c.requires.fits.table ∙ sym (ap (λ (l : LogValue). l.table.region) c.self.view_is)) c.args.position 0 (subst (λ (p : PublisherValue). MayCleanTo p.pass c.args.position) (sym c.pass.view_is) c.requires.may) c.park.ensures.told

pub fetch-requires-clause-idle : goal.fetch-requires-clause-idle
fetch-requires-clause-idle c = idle_two c.self.inside.memory.table.shared.key c.pass.inside.key.identity c.pass.inside.seat.me c.park.new.seat.me c.free_to-home.new.seat.me c.park.new.seat.me c.park.new.seat.me c.pass.invariant (ap (λ (p : PublisherValue). p.pass.identity) c.pass.view_is ∙ c.requires.fits.identity ∙ sym (ap (λ (l : LogValue). l.identity) c.self.view_is) ∙ sym c.self.invariant.identity_is) (ap (λ (p : PublisherValue). p.of.region) c.pass.view_is ∙ ap (λ (i : LogId). i.region) c.requires.fits.table ∙ sym (ap (λ (l : LogValue). l.table.region) c.self.view_is)) c.args.position c.free_to-home.result.1 (subst (λ (p : PublisherValue). MayCleanTo p.pass c.args.position) (sym c.pass.view_is) c.requires.may) c.park.ensures.told c.free_to-home.ensures.frees

pub fetch-requires-clause-apart : goal.fetch-requires-clause-apart
fetch-requires-clause-apart c = apart_two c.self.inside.memory.table.shared.key c.pass.inside.key.identity c.pass.inside.seat.me c.park.new.seat.me c.free_to-home.new.seat.me c.park.new.seat.me c.park.new.seat.me c.pass.invariant (ap (λ (p : PublisherValue). p.pass.identity) c.pass.view_is ∙ c.requires.fits.identity ∙ sym (ap (λ (l : LogValue). l.identity) c.self.view_is) ∙ sym c.self.invariant.identity_is) (ap (λ (p : PublisherValue). p.of.region) c.pass.view_is ∙ ap (λ (i : LogId). i.region) c.requires.fits.table ∙ sym (ap (λ (l : LogValue). l.table.region) c.self.view_is)) c.args.position c.free_to-home.result.1 (subst (λ (p : PublisherValue). MayCleanTo p.pass c.args.position) (sym c.pass.view_is) c.requires.may) c.park.ensures.told c.free_to-home.ensures.frees

pub clean_to-requires-clause-idle : goal.clean_to-requires-clause-idle
clean_to-requires-clause-idle c = idle_three c.self.inside.memory.table.shared.key c.pass.inside.key.identity c.pass.inside.seat.me c.park.new.seat.me c.free_to-home.new.seat.me c.fetch.new.seat.me c.park.new.seat.me c.pass.invariant (ap (λ (p : PublisherValue). p.pass.identity) c.pass.view_is ∙ c.requires.fits.identity ∙ sym (ap (λ (l : LogValue). l.identity) c.self.view_is) ∙ sym c.self.invariant.identity_is) (ap (λ (p : PublisherValue). p.of.region) c.pass.view_is ∙ ap (λ (i : LogId). i.region) c.requires.fits.table ∙ sym (ap (λ (l : LogValue). l.table.region) c.self.view_is)) c.args.position c.free_to-home.result.1 (subst (λ (p : PublisherValue). MayCleanTo p.pass c.args.position) (sym c.pass.view_is) c.requires.may) c.park.ensures.told c.free_to-home.ensures.frees c.fetch.ensures.told

pub clean_to-requires-clause-may : goal.clean_to-requires-clause-may
clean_to-requires-clause-may c = may_three c.self.inside.memory.table.shared.key c.pass.inside.key.identity c.pass.inside.seat.me c.park.new.seat.me c.free_to-home.new.seat.me c.fetch.new.seat.me c.park.new.seat.me c.pass.invariant (ap (λ (p : PublisherValue). p.pass.identity) c.pass.view_is ∙ c.requires.fits.identity ∙ sym (ap (λ (l : LogValue). l.identity) c.self.view_is) ∙ sym c.self.invariant.identity_is) (ap (λ (p : PublisherValue). p.of.region) c.pass.view_is ∙ ap (λ (i : LogId). i.region) c.requires.fits.table ∙ sym (ap (λ (l : LogValue). l.table.region) c.self.view_is)) c.args.position c.free_to-home.result.1 (subst (λ (p : PublisherValue). MayCleanTo p.pass c.args.position) (sym c.pass.view_is) c.requires.may) c.park.ensures.told c.free_to-home.ensures.frees c.fetch.ensures.told

pub invariant_of-pass : goal.invariant_of-pass
invariant_of-pass c = rests_four c.self.inside.memory.table.shared.key c.pass.inside.key.identity c.pass.inside.seat.me c.park.new.seat.me c.free_to-home.new.seat.me c.fetch.new.seat.me c.clean_to.new.seat.me c.pass.invariant (ap (λ (p : PublisherValue). p.pass.identity) c.pass.view_is ∙ c.requires.fits.identity ∙ sym (ap (λ (l : LogValue). l.identity) c.self.view_is) ∙ sym c.self.invariant.identity_is) (ap (λ (p : PublisherValue). p.of.region) c.pass.view_is ∙ ap (λ (i : LogId). i.region) c.requires.fits.table ∙ sym (ap (λ (l : LogValue). l.table.region) c.self.view_is)) c.args.position c.free_to-home.result.1 (subst (λ (p : PublisherValue). MayCleanTo p.pass c.args.position) (sym c.pass.view_is) c.requires.may) c.park.ensures.told c.free_to-home.ensures.frees c.fetch.ensures.told c.clean_to.ensures.told
