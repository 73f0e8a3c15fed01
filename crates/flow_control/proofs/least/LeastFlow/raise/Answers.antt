use Rattle.std.proofs.Common.{◌≡◌, ◌≤◌, ◌∙◌, Some, ap, sym, subst, arith}
use Rattle.flow_control.specs.Group.{Group, greatest, least_live}
use Rattle.flow_control.proofs.Falls.{IsWithin, live_within}
use Rattle.flow_control.proofs.least.LeastFlow.raise.Goals as goal

pub invariant_of-self : goal.invariant_of-self
invariant_of-self c =
    let f = c.self.inside in
    let small = c.self.invariant.2 in
    let found : least_live f.size f.clock f.members ≡ Some c.in-Some.least = ap (λ (g : Group). least_live g.size g.clock g.members) c.self.view_is ∙ sym c.least_live.ensures ∙ c.in-Some.is in
    let within : c.in-Some.least ≤ greatest f.members = subst (IsWithin (greatest f.members)) found (live_within f.size f.clock f.members) in
    (c.self.invariant.0, c.self.invariant.1, omega (arith, small, within, c.max-self-inside.ensures))
