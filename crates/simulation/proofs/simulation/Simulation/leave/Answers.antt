use Rattle.std.proofs.lemmas.Result.{on_ok_weaker}
use Rattle.script.specs.Meaning as commands
use Rattle.simulation.proofs.Simulations.{leave_answered, seen_as}
use Rattle.simulation.proofs.simulation.Simulation.leave.Goals as goal

pub returns : goal.returns
returns c =
    let command = commands.Leave c.args.reader.number in
    let before = c.args.lines.now.items in
    let after = c.add_line.new.lines.items in
    on_ok_weaker c.add_line.result (λ told. seen_as _ _ _ command before after c.self.view_is (leave_answered _ c.args.reader.number c.leave_line-line.new.log c.leave_line-line.result before after c.leave_line-line.ensures told)) c.add_line.ensures
