use Rattle.std.proofs.Common.{◌≡◌, ◌∙◌, Option, Some, ap, subst, sym}
use Rattle.frames.specs.declared.frame.Setup.{Setup}
use Rattle.subscriber.specs.Losing.{with_device}
use Rattle.subscriber.specs.Offers.{SubscriberDevice, setup_taken}
use Rattle.subscriber.specs.Turning.{ConsidersOwn}
use Rattle.subscriber.specs.Watches.{Seen}
use Rattle.subscriber.specs.declared.images.session.Session.{Session}
use Rattle.subscriber.proofs.subscription.Subscription.attend_own.Goals as goal
use Rattle.subscriber.proofs.subscription.Subscription.attend_own.Goals.{in-Some+in_ok-consider_own, in_default}

pub returns-clause-attends : goal.returns-clause-attends
returns-clause-attends g c =
    let plan = c.args.self.now.plan in
    let share = c.args.share in
    let j = c.args.session.now in
    let k = c.match-take_setup.session in
    let taken : c.take_setup.new.self ≡ setup_taken j.duty.device = c.take_setup.ensures.left ∙ ap setup_taken c.device_mut.ensures.value in
    let told : c.take_setup.result ≡ j.duty.device.notes.setup = c.take_setup.ensures.taken ∙ ap (λ (d : SubscriberDevice). d.notes.setup) c.device_mut.ensures.value in
    elim c.match-take_setup.branch [
      | in-Some+in_ok-consider_own w ↦ (
        k,
        subst (λ (o : Option Setup). ConsidersOwn plan share o (with_device j (setup_taken j.duty.device)) k) (sym w.in-Some.is ∙ told)
            (subst (λ (d : SubscriberDevice). ConsidersOwn plan share (Some w.in-Some.setup) (with_device j d) k) taken
            (subst (λ (x : Session). ConsidersOwn plan share (Some w.in-Some.setup) (with_device j c.take_setup.new.self) x) (sym w.session-is) w.in_ok-consider_own.ensures.considers)),
        ap (λ (x : Seen). record k { watch = x }) c.attend.ensures,
      )
      | in_default w ↦ (
        k,
        subst (λ (o : Option Setup). ConsidersOwn plan share o (with_device j (setup_taken j.duty.device)) k) (sym w.in_default.is ∙ told)
            (w.session-is ∙ ap (λ (d : SubscriberDevice). with_device j d) taken),
        ap (λ (x : Seen). record k { watch = x }) c.attend.ensures,
      )
    ]
