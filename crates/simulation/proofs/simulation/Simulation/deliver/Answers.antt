use Rattle.std.proofs.Common.{◌≡◌, ◌∙◌, ◌++◌, ap, map, refl, rules, None, Some}
use Rattle.std.specs.Prelude.{slice_get}
use Rattle.std.proofs.lemmas.Result.{on_ok_weaker}
use Rattle.script.specs.Meaning as commands
use Rattle.script_meaning.specs.LineContents.{OfReceiver}
use Rattle.simulation.specs.Lines.{line_contents}
use Rattle.theory.proofs.Tables.{seat_at}
use Rattle.simulation.proofs.Simulations.{deliver_answered, missing_deliver, seen_as, unchanged}
use Rattle.simulation.proofs.simulation.Simulation.deliver.Goals as goal

pub returns-in_default : goal.returns-in_default
returns-in_default c =
    let none : slice_get c.self.inside.packets c.args.packet ≡ None = search rules in
    on_ok_weaker c.add_line.result (λ told. unchanged _ _ (commands.Deliver c.args.packet c.args.receiver.number c.args.now) c.args.lines.now.items c.add_line.new.lines.items c.self.view_is (missing_deliver _ c.args.packet c.args.receiver.number c.args.now _ c.args.lines.now.items c.add_line.new.lines.items none refl told)) c.add_line.ensures

pub returns : goal.returns
returns c =
    let n = c.args.receiver.number in
    let before = c.args.lines.now.items in
    let after = c.tell.new.lines.items in
    let packet : slice_get c.self.inside.packets c.args.packet ≡ Some c.in-Some.bytes.now = search rules in
    let there = seat_at c.self.inside.subscribers.items n c.index_mut.result.now _ c.index_mut.ensures.value (search rules) in
    on_ok_weaker c.tell.result (λ told. seen_as _ _ _ (commands.Deliver c.args.packet n c.args.now) before after c.self.view_is (deliver_answered _ c.args.packet n c.args.now c.in-Some.bytes.now c.index_mut.result.now c.on_datagram.new.self c.in_ok-outcomes.outcomes.items before after packet there c.in_ok-outcomes.ensures.heard (told ∙ ap (λ xs. line_contents before ++ map OfReceiver xs) c.deref.ensures.value))) c.tell.ensures
