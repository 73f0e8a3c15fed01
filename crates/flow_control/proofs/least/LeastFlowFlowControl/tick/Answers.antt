use Rattle.std.proofs.Common.{◌≤◌, ◌∙◌, ap, sym, subst}
use Rattle.flow_control.specs.Group.{Group, allowed, raised}
use Rattle.flow_control.proofs.Falls.{tick_within}
use Rattle.flow_control.proofs.least.LeastFlowFlowControl.tick.Goals as goal

pub returns-clause-allows : goal.returns-clause-allows
returns-clause-allows c =
    let old = c.args.self.now in
    subst (λ (f : Group). allowed f ≤ allowed old) (sym (c.raise.ensures ∙ ap raised c.see.ensures)) (tick_within old c.args.now).1
