use Rattle.std.proofs.Common.{◌∙◌, ◌++◌, ap, map, rules}
use Rattle.std.proofs.lemmas.Result.{on_ok_weaker}
use Rattle.script.specs.Meaning as commands
use Rattle.script_meaning.specs.LineContents.{OfReceiver}
use Rattle.simulation.specs.Lines.{line_contents}
use Rattle.theory.proofs.Tables.{seat_at}
use Rattle.simulation.proofs.Simulations.{raw_answered, seen_as}
use Rattle.simulation.proofs.simulation.Simulation.raw.Goals as goal

pub returns : goal.returns
returns c =
    let n = c.args.receiver.number in
    let before = c.args.lines.now.items in
    let after = c.tell.new.lines.items in
    let there = seat_at c.self.inside.subscribers.items n c.index_mut.result.now _ c.index_mut.ensures.value (search rules) in
    on_ok_weaker c.tell.result (λ told. seen_as _ _ _ (commands.Raw n c.args.now c.args.bytes.now) before after c.self.view_is (raw_answered _ n c.args.now c.args.bytes.now c.index_mut.result.now c.on_datagram.new.self c.in_ok-outcomes.outcomes.items before after there c.in_ok-outcomes.ensures.heard (told ∙ ap (λ xs. line_contents before ++ map OfReceiver xs) c.deref.ensures.value))) c.tell.ensures
