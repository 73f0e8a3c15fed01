use Rattle.std.proofs.Common.{rules, ◌∙◌, sym, pos, ℤ, w32, FitsSigned, subst}
use Rattle.std.specs.Prelude.{◌<ℤ◌}
use Rattle.std.proofs.lemmas.Int.{to_z-of_z}
use Rattle.std.proofs.lemmas.Bool.{both_ways}
use Rattle.frames.specs.Frames.{setup_of}
use Rattle.receiver.proofs.Named.{no_count, no_offset, no_place, place_named}
use Rattle.receiver.proofs.setup.judgement.position_of.Goals as goal

pub returns-clause-named : goal.returns-clause-named
returns-clause-named c =
    let fits : FitsSigned w32 c.args.setup.now.term_offset = search rules in
    let placed = sym (to_z-of_z w32 c.args.setup.now.term_offset fits) ∙ c.in-Some-unsigned.ensures.some in
    place_named (setup_of c.args.setup.now) c.args.geometry.now c.in-Some.count c.in-Some-unsigned.offset c.term_length-length.result _ _ _ c.requires c.in-Some.ensures.some placed (c.is_place.ensures.0 c.if-not-is_place.false) c.term_length-length.ensures.value c.from.ensures c.from-2.ensures c.from-3.ensures

pub returns-in_default-clause-none : goal.returns-in_default-clause-none
returns-in_default-clause-none c = no_count (setup_of c.args.setup.now) c.args.geometry.now c.requires c.in_default.ensures.none

pub returns-in_default-unsigned-clause-none : goal.returns-in_default-unsigned-clause-none
returns-in_default-unsigned-clause-none c =
    let fits : FitsSigned w32 c.args.setup.now.term_offset = search rules in
    no_offset (setup_of c.args.setup.now) c.args.geometry.now (subst (λ (z : ℤ). z <ℤ pos 0) (to_z-of_z w32 c.args.setup.now.term_offset fits) c.in_default-unsigned.ensures.none)

pub returns-then-not-is_place-clause-none : goal.returns-then-not-is_place-clause-none
returns-then-not-is_place-clause-none c =
    let fits : FitsSigned w32 c.args.setup.now.term_offset = search rules in
    let placed = sym (to_z-of_z w32 c.args.setup.now.term_offset fits) ∙ c.in-Some-unsigned.ensures.some in
    no_place (setup_of c.args.setup.now) c.args.geometry.now c.in-Some.count c.in-Some-unsigned.offset c.term_length-length.result c.requires c.in-Some.ensures.some placed (λ inside. both_ways c.is_place.result c.if-not-is_place.true (c.is_place.ensures.1 inside)) c.term_length-length.ensures.value
