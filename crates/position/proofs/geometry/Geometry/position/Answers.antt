use Rattle.std.proofs.Common.{◌≡◌, ◌≤◌, ◌^◌, ◌∙◌, subst, rules, pos, refl}
use Rattle.std.specs.Int.{w32, w64}
use Rattle.std.specs.Int.RustNames.{unsigned_abs}
use Rattle.theory.specs.Position.{Geometry, count_of, position_of}
use Rattle.position.proofs.Numbers.{as_they_are, placed}
use mir.Val.{SFits}
use Rattle.position.proofs.geometry.Geometry.position.Goals as goal

pub returns : goal.returns
returns c =
    let g : Geometry = record { term_length = c.self.inside.term_length; mtu = c.self.inside.mtu; initial_term_id = c.self.inside.initial_term_id } in
    let fa : SFits w32 c.from.result = search rules in
    let fb : SFits w64 c.from-2.result = search rules in
    let nb : unsigned_abs c.from-2.result ≤ 2 ^ 24 = search rules in
    let fo : SFits w32 c.from-3.result = search rules in
    let count : c.from.result ≡ count_of g c.args.term_id = search rules in
    let term : c.from-2.result ≡ pos g.term_length = search rules in
    let offset : c.from-3.result ≡ c.args.offset = search rules in
    as_they_are c.from.result c.from-2.result c.from-3.result fa fb nb fo ∙ placed g c.args.term_id c.args.offset _ _ _ count term offset
    ∙ subst (λ v. position_of g c.args.term_id c.args.offset ≡ position_of v c.args.term_id c.args.offset) c.self.view_is refl
