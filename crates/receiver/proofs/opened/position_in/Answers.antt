use Rattle.std.proofs.Common.{◌≡◌, sym, ap₂, ◌∙◌, subst, arith, rules, pos, FitsSigned, to_z, of_z, w32, w64}
use Rattle.std.proofs.lemmas.Int.{ints, to_z-of_z}
use Rattle.image.specs.Stored.{IsUnit}
use Rattle.theory.specs.Position.{position_of}
use Rattle.receiver.proofs.Units.{unit_position}
use Rattle.receiver.proofs.opened.position_in.Goals as goal

pub returns-clause-named : goal.returns-clause-named
returns-clause-named c =
    let fits : FitsSigned w64 c.position.result = search rules in
    let offset : to_z w32 (of_z w32 c.cast_signed.result) ≡ pos c.args.header.now.term_offset = omega (arith, ints, c.cast_signed.ensures, c.requires.header.low) in
    let id : to_z w32 (of_z w32 c.args.header.now.term_id) ≡ c.args.header.now.term_id = to_z-of_z w32 c.args.header.now.term_id c.requires.header.term_id in
    to_z-of_z w64 c.position.result fits ∙ c.position.ensures ∙ ap₂ (position_of c.args.geometry.now) id offset

pub returns-clause-unit : goal.returns-clause-unit
returns-clause-unit c = subst IsUnit (sym (returns-clause-named c)) (unit_position c.args.geometry.now c.args.header.now.term_id c.args.header.now.term_offset c.requires.legal c.requires.header.unit)
