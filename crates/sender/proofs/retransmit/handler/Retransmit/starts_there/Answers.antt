use Rattle.std.proofs.Common.{◌≡◌, nat_eq, false, sym, subst}
use Rattle.sender.specs.Resending.Handler.{starts_at, Handler}
use Rattle.sender.proofs.Resending.Ascending.{there, any_not}
use Rattle.sender.proofs.retransmit.handler.Retransmit.starts_there.Goals as goal

pub returns-in-Some : goal.returns-in-Some
returns-in-Some c =
    subst (λ (h : Handler). nat_eq c.in-Some.start c.args.at ≡ starts_at h.starts c.args.at) c.self.view_is
    (there _ _ c.args.at c.in-Some.start c.self.inside.starts.items c.self.invariant.spaced c.in-Some.ensures)

pub returns-in-None : goal.returns-in-None
returns-in-None c =
    subst (λ (h : Handler). false ≡ starts_at h.starts c.args.at) c.self.view_is
    (sym (any_not _ _ c.args.at c.self.inside.starts.items c.self.invariant.spaced (λ e. let was = c.in-None.ensures in cc)))
