use Rattle.std.proofs.Common.{◌≡◌, ℕ, rules, subst, sym}
use Rattle.theory.specs.Image.{IsWindow}
use Rattle.subscriber.proofs.Windows.{allowed}
use Rattle.subscriber.specs.Windows.{window_of}
use Rattle.subscriber.proofs.listening.setup_offer.window_of.Goals as goal

pub returns-clause-allowed : goal.returns-clause-allowed
returns-clause-allowed c =
    let value : c.max-2.result ≡ window_of c.args.share c.args.term_length c.args.mtu = search rules in
    λ term mtu. subst (λ (w : ℕ). IsWindow c.args.term_length c.args.mtu w) (sym value) (allowed c.args.share c.args.term_length c.args.mtu term mtu)
