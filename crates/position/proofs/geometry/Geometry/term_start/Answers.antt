use Rattle.std.proofs.Common.{arith, ◌≡◌, ◌/◌, ap, div-add-mod'}
use Rattle.theory.proofs.Places.{term_ends}
use Rattle.position.proofs.Numbers.{whole_power, unit_start}
use Rattle.position.proofs.geometry.Geometry.term_start.Goals as goal

pub returns-clause-in_stream : goal.returns-clause-in_stream
returns-clause-in_stream c =
    let shown : c.self.inside.term_length ≡ c.args.self.now.term_length = ap (λ g. g.term_length) c.self.view_is in
    let ends = term_ends c.args.position c.args.self.now.term_length (omega (arith, shown, c.self.invariant.term.least)) (omega (arith, c.requires)) in
    grind (arith, shown, ends, div-add-mod' c.args.position c.args.self.now.term_length)

pub returns-clause-unit : goal.returns-clause-unit
returns-clause-unit c =
    let whole = whole_power c.self.inside.term_length c.self.invariant.term.power c.self.invariant.term.least in
    let unit = unit_start (c.args.position / c.self.inside.term_length) c.self.inside.term_length whole in
    grind (arith, unit, div-add-mod' c.args.position c.self.inside.term_length)
