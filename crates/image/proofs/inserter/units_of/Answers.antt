use Rattle.std.proofs.Common.{◌≡◌, ◌*◌, ◌/◌, ℕ, ap, ◌∙◌, arith}
use Rattle.theory.specs.Position.{Geometry}
use Rattle.image_rule.proofs.Opening.{key_is, ring_is}
use Rattle.image.proofs.inserter.units_of.Goals as goal

pub returns-clause-is : goal.returns-clause-is
returns-clause-is c = ring_is c.args.key.now (3 * c.from.result / 32) (ap (λ (n : ℕ). 3 * n / 32) (c.from.ensures ∙ c.term_length.ensures.value ∙ ap (λ (g : Geometry). g.term_length) c.geometry.ensures.value))

pub returns-clause-key : goal.returns-clause-key
returns-clause-key c =
    let e : c.term_length.result ≡ c.args.key.now.identity.geometry.term_length = c.term_length.ensures.value ∙ ap (λ (g : Geometry). g.term_length) c.geometry.ensures.value in
    let g : c.geometry.result.term_length ≡ c.args.key.now.identity.geometry.term_length = ap (λ (g : Geometry). g.term_length) c.geometry.ensures.value in
    let whole = c.term_length.ensures.whole in let legal = c.term_length.ensures.legal in let least = legal.term.least in let greatest = legal.term.greatest in
    key_is c.args.key.now (omega arith) (omega arith) (omega arith) c.requires
