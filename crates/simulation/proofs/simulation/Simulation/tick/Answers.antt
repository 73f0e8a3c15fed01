use Rattle.std.proofs.Common.{◌≡◌, ◌∙◌, ◌++◌, ap, length, rules, sym}
use Rattle.receiver.specs.Receiving.{replied}
use Rattle.script.specs.Meaning as commands
use Rattle.simulation.specs.Lines.{line_contents}
use Rattle.simulation.specs.Packed.{bytes_of}
use Rattle.script_meaning.specs.Answers.{or_nothing, packet_lines}
use Rattle.sender.specs.Cycling.{alone, datagrams}
use Rattle.theory.proofs.Tables.{seat_at}
use Rattle.simulation.proofs.Simulations.{alone_bytes, on_both, seen_as, tick_answered}
use Rattle.simulation.proofs.simulation.Simulation.tick.Goals as goal

pub returns : goal.returns
returns c =
    let n = c.args.receiver.number in
    let before = c.args.lines.now.items in
    let after = c.tell_replies.new.lines.items in
    let there = seat_at c.self.inside.subscribers.items n c.index_mut.result.now _ c.index_mut.ensures.value (search rules) in
    on_both c.tell_replies.result _ _ _ c.tell_replies.ensures.given c.tell_replies.ensures.line
    (λ given told.
    let wires = replied c.tick-replies.result in
    let same : bytes_of wires ≡ datagrams (alone wires) = sym (alone_bytes wires) in
    seen_as _ _ _ (commands.Tick n c.args.now) before after c.self.view_is (tick_answered _ n c.args.now c.index_mut.result.now c.tick-replies.new.self wires c.tell_replies.new.self before after there c.tick-replies.ensures.replies c.tick-replies.ensures.state c.tick-replies.ensures.written (given ∙ ap (λ ps. c.self.inside.packets ++ ps) same) (told ∙ ap (λ ps. line_contents before ++ or_nothing (packet_lines (length c.self.inside.packets) ps)) same)))
