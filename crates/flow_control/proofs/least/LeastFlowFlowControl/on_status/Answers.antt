use Rattle.std.proofs.Common.{◌≡◌, ◌≤◌, ◌∙◌, ℕ, Some, ap, max, rules, sym, subst}
use Rattle.std.specs.Prelude.{◌+ℤ◌}
use Rattle.theory.specs.FlowLimit.{clipped}
use Rattle.flow_control.specs.Group.{Group, allowed, at_moment, raised, told, with_status}
use Rattle.flow_control.proofs.Falls.{told_within}
use Rattle.flow_control.proofs.least.LeastFlowFlowControl.on_status.Goals as goal

pub returns-clause-allows : goal.returns-clause-allows
returns-clause-allows c =
    let old = c.args.self.now in
    let number = c.in-Some.number in
    let reach = c.reach_of.result in
    let new : c.raise.new.self ≡ told (at_moment old c.args.now) reach (Some number) = c.raise.ensures ∙ ap raised (c.hear.ensures ∙ ap (λ (f : Group). with_status f number reach) c.see.ensures) in
    let same : reach ≡ clipped (c.args.position +ℤ c.args.window) = search rules in
    subst (λ (n : ℕ). allowed c.raise.new.self ≤ max n (allowed old)) same
    (subst (λ (f : Group). allowed f ≤ max reach (allowed old)) (sym new) (told_within (at_moment old c.args.now) reach (Some number)).1)
