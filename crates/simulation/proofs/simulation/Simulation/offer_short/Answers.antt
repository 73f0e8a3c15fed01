use Rattle.std.proofs.lemmas.Result.{on_ok_weaker}
use Rattle.simulation.proofs.Simulations.{offer_answered, seen_as}
use Rattle.simulation.proofs.simulation.Simulation.offer_short.Goals as goal

pub returns : goal.returns
returns c =
    let before = c.args.lines.now.items in
    let after = c.add_line.new.lines.items in
    on_ok_weaker c.add_line.result (λ told. λ command means. seen_as _ _ _ command before after c.self.view_is (offer_answered _ c.offer_line-line.new.log c.args.publisher.number c.args.message.now c.offer_line-line.result before after c.offer_line-line.ensures.still c.offer_line-line.ensures.leads told command means)) c.add_line.ensures
