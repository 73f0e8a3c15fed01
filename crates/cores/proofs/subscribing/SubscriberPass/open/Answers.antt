use Rattle.std.proofs.Common.{refl}
use Rattle.receiver.specs.Receiving.{listening}
use Rattle.cores.proofs.subscribing.SubscriberPass.open.Goals as goal

pub returns : goal.returns
returns c =
    let config = c.args.config.now in
    record { shown = c.new-subscriber.ensures.shown (listening config.session config.stream config.window config.receiver 1 config.greatest) (c.core_of.ensures.shown config.greatest) refl; none = refl }
