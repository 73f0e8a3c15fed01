use Rattle.std.proofs.Common.{rules}
use Rattle.std.proofs.lemmas.Result.{on_ok_weaker}
use Rattle.script.specs.Meaning as commands
use Rattle.theory.proofs.Tables.{seat_at}
use Rattle.simulation.proofs.Simulations.{image_answered, unchanged}
use Rattle.simulation.proofs.simulation.Simulation.image.Goals as goal

pub returns : goal.returns
returns c =
    let k = c.args.receiver.number in
    let before = c.args.lines.now.items in
    let after = c.add_line.new.lines.items in
    on_ok_weaker c.add_line.result (λ told. unchanged _ _ (commands.Image k) before after c.self.view_is
    (image_answered _ k c.index.result.now c.positions-positions.result c.positions_line.result before after (seat_at c.self.inside.subscribers.items k c.index.result.now _ c.index.ensures (search rules)) c.positions-positions.ensures.told c.positions_line.ensures told)) c.add_line.ensures
