use Rattle.std.proofs.lemmas.Result.{on_ok_weaker}
use Rattle.script.specs.Meaning as commands
use Rattle.simulation.proofs.Simulations.{may_offer}
use Rattle.simulation.proofs.simulation.Simulation.offer.Goals as goal

pub returns : goal.returns
returns c = on_ok_weaker c.offer_short.result (λ o. o (commands.Offer c.args.publisher.number c.args.message.now) (λ s t lines x. may_offer s t c.args.publisher.number c.args.message.now lines x)) c.offer_short.ensures
