use Rattle.std.proofs.Common.{◌≡◌, sym, subst}
use Rattle.std.specs.Prelude.{IfErr, IfOk, option_map}
use Rattle.std.specs.Arc.{arc_value}
use Rattle.assembler.specs.Assembling.{Assembling}
use Rattle.image.specs.Handles.{position_of}
use Rattle.receiver.specs.Reading.{FindsNone, HearsOne, Reading, RefusesOne, heard_to_of}
use Rattle.receiver.proofs.Heard.{found_by, hears_if, missed, refuses_if, taken_joins}
use Rattle.receiver.proofs.message_reader.MessageReader.hear.Goals as goal

pub returns-in_default-clause-none : goal.returns-in_default-clause-none
returns-in_default-clause-none c =
    let i = c.self.inside in let q = c.read_with.new.reader in let none = c.in_default.ensures.none in
    let m : Reading = record { image = arc_value i.image; seat = i.reader; assembler = i.joiner.assembler; heard_to = heard_to_of i.waits i.reader } in
    let at : position_of m.seat ≡ m.heard_to = subst (λ (x : Reading). position_of x.seat ≡ x.heard_to) (sym c.self.view_is) c.requires in
    subst (λ (x : Reading × Assembling). FindsNone x.0 (record { image = arc_value i.image; seat = q; assembler = x.1; heard_to = heard_to_of i.waits q }))
    (λ j. (c.self.view_is j, (sym none.1 j).assembler)) (missed (arc_value i.image) i.waits i.reader q i.joiner.assembler at c.self.invariant.1 none.0)

pub returns-clause-heard : goal.returns-clause-heard
returns-clause-heard c =
    let i = c.self.inside in let f = c.in-Some.ensures.found in let t = c.take_step in
    let n = found_by (arc_value i.image) c.read_with.new.reader t.new.self.assembler in
    let m : Reading = record { image = arc_value i.image; seat = i.reader; assembler = i.joiner.assembler; heard_to = heard_to_of i.waits i.reader } in
    let at : position_of m.seat ≡ m.heard_to = subst (λ (x : Reading). position_of x.seat ≡ x.heard_to) (sym c.self.view_is) c.requires in
    subst (λ (x : Reading). IfOk t.result (λ y. HearsOne x (option_map (λ z. z.bytes.items) y) n)) c.self.view_is
    (hears_if m c.read_with.new.reader t.new.self.assembler f.0 c.in-Some.field-0 t.result at f.1 (taken_joins i.joiner.assembler _ _ c.in-Some.field-0 f.0 _ _ f.2 t.ensures.step t.ensures.assembler))

pub returns-clause-refused : goal.returns-clause-refused
returns-clause-refused c =
    let i = c.self.inside in let f = c.in-Some.ensures.found in let t = c.take_step in
    let n = found_by (arc_value i.image) c.read_with.new.reader t.new.self.assembler in
    let m : Reading = record { image = arc_value i.image; seat = i.reader; assembler = i.joiner.assembler; heard_to = heard_to_of i.waits i.reader } in
    let at : position_of m.seat ≡ m.heard_to = subst (λ (x : Reading). position_of x.seat ≡ x.heard_to) (sym c.self.view_is) c.requires in
    subst (λ (x : Reading). IfErr t.result (λ y. RefusesOne x y n)) c.self.view_is
    (refuses_if m c.read_with.new.reader t.new.self.assembler f.0 c.in-Some.field-0 t.result at f.1 (taken_joins i.joiner.assembler _ _ c.in-Some.field-0 f.0 _ _ f.2 t.ensures.step t.ensures.assembler))
