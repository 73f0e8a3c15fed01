use Rattle.std.proofs.Common.{◌+◌, ℕ, refl, subst, sym}
use Rattle.receiver.specs.Lives.{ActsSo, Ticks}
use Rattle.std.proofs.lemmas.Result.{err_from_is_err_and}
use Rattle.subscriber.proofs.Breaking.{cycle_broken}
use Rattle.subscriber.proofs.Faults.{cycle_fault}
use Rattle.subscriber.proofs.Lived.{cycle_lives_on}
use Rattle.subscriber.proofs.Patience.{patient}
use Rattle.subscriber.specs.Living.{LivesOn}
use Rattle.subscriber.specs.declared.images.session.Session.{Session}
use Rattle.subscriber.proofs.subscription.Subscription.cycle_once.Goals as goal

pub returns-in_err-done-clause-patient : goal.returns-in_err-done-clause-patient
returns-in_err-done-clause-patient g c =
    let p = err_from_is_err_and c.from_residual.result c.from_residual.ensures.1 in
    rw (p.1, p.2) (patient _ _ _ _ _ _ _ _ _ _ _ _ refl refl c.in_err-done.ensures.fault)

pub returns-clause-lives : goal.returns-clause-lives
returns-clause-lives g c =
    subst (λ (j : Session). LivesOn c.args.self.now.plan.end.form c.args.written c.args.session.now.follower (g.W.Write.contents c.args.output.now) (c.args.written + c.in_ok-done.done.messages) j.follower (g.W.Write.contents c.cycle.new.output)) (sym c.note_heard.ensures.same)
    (cycle_lives_on c.args.self.now.plan.end.form _ _ c.args.written (c.args.written + c.in_ok-done.done.messages) _ _ _ _ c.in_ok-done.done _ _ _ refl c.in_ok-done.ensures.done)

pub returns-in_err-done-clause-broken : goal.returns-in_err-done-clause-broken
returns-in_err-done-clause-broken g c =
    let p = err_from_is_err_and c.from_residual.result c.from_residual.ensures.1 in
    rw p.1 (cycle_broken _ _ _ _ _ _ _ _ _ _ _ _ c.in_err-done.ensures.fault)

pub returns-clause-ticked : goal.returns-clause-ticked
returns-clause-ticked g c =
    let w = c.in_ok-done.ensures.done.writes in (
      w.cycle.middle,
      subst (λ (j : Session). ActsSo w.cycle.middle (Ticks c.args.session.now.watch.moment) j.follower.subscriber) (sym c.note_heard.ensures.same)
          (subst (λ (n : ℕ). ActsSo w.cycle.middle (Ticks n) c.cycle.new.follower.subscriber) c.moment.ensures w.cycle.ticked.becomes),
    )

pub returns-in_err-done-clause-caused : goal.returns-in_err-done-clause-caused
returns-in_err-done-clause-caused g c =
    let p = err_from_is_err_and c.from_residual.result c.from_residual.ensures.1 in
    rw (p.1, p.2) (cycle_fault _ _ _ _ _ _ _ _ _ _ _ _ refl refl c.in_err-done.ensures.fault)
