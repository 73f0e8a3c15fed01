use Rattle.std.proofs.Common.{Bool, sym, subst}
use Rattle.std.specs.Arc.{arc_value}
use Rattle.image.specs.Handles.{position_of}
use Rattle.receiver.specs.Reading.{Passes, Reading, heard_to_of}
use Rattle.receiver.proofs.Heard.{passed}
use Rattle.receiver.proofs.message_reader.MessageReader.pass.Goals as goal

pub returns-then-self-clause-passes : goal.returns-then-self-clause-passes
returns-then-self-clause-passes c =
    let m = c.self.inside in let q = c.advance.new.reader in
    let after : Reading = record { image = arc_value m.image; seat = q; assembler = m.joiner.assembler; heard_to = position_of q } in
    subst (λ (x : Reading). Passes x after) c.self.view_is
    (subst (λ (b : Bool). Passes (record { image = arc_value m.image; seat = m.reader; assembler = m.joiner.assembler; heard_to = heard_to_of b m.reader }) after) (sym c.if-self.true)
    (passed (arc_value m.image) m.reader q m.joiner.assembler c.advance.ensures.passed))
