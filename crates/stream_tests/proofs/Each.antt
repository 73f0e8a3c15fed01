-- Who has published isn't armed.
use Rattle.std.proofs.Common.{◌≡◌, ℕ, List, ap, ◌∙◌}
use Rattle.publication.specs.declared.pass.Pass.{Pass}
use Rattle.publication.specs.Offers.{Offered}

pub offered_idle : (p q : Pass) (message : List ℕ) (end : ℕ) → Offered p message end q → q.right.armed ≡ 0
offered_idle p q message end o = ap (λ (v : Pass). v.right.armed) o.after ∙ o.claimed.idle
