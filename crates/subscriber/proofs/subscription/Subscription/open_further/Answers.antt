use Rattle.std.proofs.Common.{◌∙◌, List, ap, arith}
use Rattle.subscriber.specs.Sessions.{open_count}
use Rattle.subscriber.specs.declared.images.session.Session.{Session}
use Rattle.subscriber.proofs.Chosen.{open_few}
use Rattle.subscriber.proofs.subscription.Subscription.open_further.Goals as goal

pub overflow_add-seat : goal.overflow_add-seat
overflow_add-seat g c =
    let opened = c.open_count.ensures ∙ ap (λ (ys : List Session). open_count ys) c.as_slice.ensures.value in
    let few = open_few c.args.sessions.now.list.items in
    let low = c.requires in
    omega (arith, opened, few, low)
