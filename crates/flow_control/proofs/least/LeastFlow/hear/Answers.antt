use Rattle.std.proofs.Common.{◌≡◌, ◌∙◌, Some, ap, arith, max, sym}
use Rattle.std.proofs.lemmas.List.{length-set}
use Rattle.flow_control.specs.Group.{Group, best_of, member_at}
use Rattle.flow_control.specs.declared.least.Member.{Member}
use Rattle.flow_control.proofs.Falls.{best_within, greatest_set}
use Rattle.flow_control.proofs.least.LeastFlow.hear.Goals as goal

pub invariant_of-self : goal.invariant_of-self
invariant_of-self c =
    let f = c.self.inside in
    let m : Member = record { best = c.best_with-best.result; last = f.clock } in
    let small = c.self.invariant.2 in
    let best : c.best_with-best.result ≡ max c.args.reach (best_of (member_at f.members c.args.number)) = c.best_with-best.ensures ∙ ap (λ o. max c.args.reach (best_of o)) c.member.ensures ∙ ap (λ (g : Group). max c.args.reach (best_of (member_at g.members c.args.number))) (sym c.self.view_is) in
    (c.self.invariant.0, length-set f.members c.args.number (Some m) ∙ c.self.invariant.1, omega (arith, small, best, greatest_set f.members c.args.number m, best_within f.members c.args.number, c.requires.small))
