use Rattle.std.proofs.lemmas.Result.{on_ok_weaker}
use Rattle.script.specs.Meaning as commands
use Rattle.simulation.proofs.Simulations.{log_answered, seen_as}
use Rattle.simulation.proofs.simulation.Simulation.commit.Goals as goal

pub returns : goal.returns
returns c =
    let command = commands.Commit c.args.publisher.number in
    let before = c.args.lines.now.items in
    let after = c.add_line.new.lines.items in
    on_ok_weaker c.add_line.result (λ told. seen_as _ _ _ command before after c.self.view_is (log_answered _ c.commit_line.new.log command c.in_ok-line.line before after c.commit_line.ensures.still c.in_ok-line.ensures.leads told)) c.add_line.ensures
