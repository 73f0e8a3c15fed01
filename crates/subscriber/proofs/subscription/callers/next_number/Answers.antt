use Rattle.std.proofs.Common.{◌∙◌, ap, sym}
use Rattle.subscriber.specs.Images.{next}
use Rattle.subscriber.specs.declared.images.session.Session.{Session}
use Rattle.subscriber.proofs.Called.{next_at}
use Rattle.subscriber.proofs.subscription.callers.next_number.Goals as goal

pub returns : goal.returns
returns c =
    next_at c.args.sessions.now c.args.place c.next_number.result c.index-sessions-place.result c.requires c.index-sessions-place.is
    (c.next_number.ensures ∙ ap (λ (j : Session). next j.images.number) (sym c.index-sessions-place.is))
