use Rattle.std.proofs.Common.{◌∙◌, ◌++◌, ◌<◌, ap, sym, arith, length}
use Rattle.std.proofs.lemmas.Result.{on_ok_weaker}
use Rattle.simulation.specs.Lines.{line_contents}
use Rattle.simulation.proofs.PacketNumbers.{not_nothing}
use Rattle.simulation.proofs.packets.Packets.tell_all.Goals as goal

pub returns-clause-line : goal.returns-clause-line
returns-clause-line c =
    let all = c.args.outbox.now.datagrams in
    let some : 0 < length all = omega (arith, c.len.ensures.value, c.if-len-eq0.false) in
    on_ok_weaker c.give_all.result (λ told. told ∙ ap (λ ls. line_contents c.args.lines.now.items ++ ls) (sym (not_nothing (length c.args.self.now) all some))) c.give_all.ensures.line
