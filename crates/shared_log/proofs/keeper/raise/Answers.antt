use Rattle.std.proofs.Common.{◌≡◌, ◌/◌, ◌+◌, ap, ◌∙◌, subst, arith}
use Rattle.theory.specs.Bytes.{Identity}
use Rattle.theory.specs.Position.{Geometry, IsGeometry}
use Rattle.shared_log.specs.Keepers.{IsKeeping, KeeperValue}
use Rattle.shared_log.proofs.Limits.{may_raise}
use Rattle.shared_log.proofs.keeper.raise.Goals as goal

pub store_limit-requires-clause-may : goal.store_limit-requires-clause-may
store_limit-requires-clause-may c =
    let shape : c.geometry.result ≡ c.args.log.now.identity.geometry = c.geometry.ensures.value ∙ ap (λ (i : Identity). i.geometry) c.identity.ensures.is in
    let half : c.from-half.result ≡ c.args.log.now.identity.geometry.term_length = c.from-half.ensures ∙ c.term_length.ensures.value ∙ ap (λ (g : Geometry). g.term_length) shape in
    let limit = ap (λ (k : KeeperValue). k.limit) c.keeper.view_is in
    may_raise c.args.keeper.now c.args.log.now.identity.geometry c.args.least _ (subst IsGeometry shape c.geometry.ensures.legal) (subst (λ (k : KeeperValue). IsKeeping k.held.pass k.limit k.cleaned) c.keeper.view_is c.keeper.invariant.keeping) (ap (λ (i : Identity). i.geometry) c.requires.fits.identity) c.requires.may
    (ap (λ n. c.args.least + n / 2 + 1) half) (let lt = c.if-limit-least.true in omega (arith, limit, half, lt))
