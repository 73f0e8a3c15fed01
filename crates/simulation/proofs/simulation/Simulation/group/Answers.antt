use Rattle.std.proofs.Common.{refl}
use Rattle.std.proofs.lemmas.Result.{on_ok_weaker}
use Rattle.script.specs.Meaning as commands
use Rattle.simulation.proofs.Simulations.{done_answered}
use Rattle.simulation.proofs.simulation.Simulation.group.Goals as goal

pub returns : goal.returns
returns c = λ size.
    let before = c.args.lines.now.items in
    let after = c.add_line.new.lines.items in
    on_ok_weaker c.add_line.result (λ told. done_answered _ (commands.Group size) _ before after refl (λ s. (refl, refl)) told) c.add_line.ensures
