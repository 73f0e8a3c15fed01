use Rattle.std.proofs.Common.{rules}
use Rattle.std.proofs.lemmas.Result.{on_ok_weaker}
use Rattle.receiver.specs.Subscribing.{answer_of}
use Rattle.script.specs.Meaning as commands
use Rattle.theory.proofs.Tables.{seat_at}
use Rattle.simulation.proofs.Simulations.{poll_answered, seen_as}
use Rattle.simulation.proofs.simulation.Simulation.poll.Goals as goal

pub returns : goal.returns
returns c =
    let k = c.args.receiver.number in
    let before = c.args.lines.now.items in
    let after = c.add_line.new.lines.items in
    on_ok_weaker c.add_line.result (λ told. seen_as _ _ _ (commands.Poll k) before after c.self.view_is
    (poll_answered _ k c.index_mut.result.now c.poll-answer.new.self (answer_of c.poll-answer.result) c.poll_line.result before after (seat_at c.self.inside.subscribers.items k c.index_mut.result.now _ c.index_mut.ensures.value (search rules)) c.poll-answer.ensures.polled c.poll_line.ensures told)) c.add_line.ensures
