use Rattle.std.proofs.Common.{◌≤◌, subst, sym, arith}
use Rattle.shared_log.specs.Keepers.{CleansTo, IsKeeping, KeeperValue, KnowsLimit}
use Rattle.shared_log.proofs.Cleaning.{cleans_nothing, cleans_some}
use Rattle.shared_log.proofs.keeper.clean_to.Goals as goal

pub returns-then-end-keeper : goal.returns-then-end-keeper
returns-then-end-keeper c =
    let is = subst (λ (k : KeeperValue). IsKeeping k.held.pass k.limit k.cleaned) c.keeper.view_is c.keeper.invariant.keeping in
    cleans_nothing c.args.log.now.identity c.args.keeper.now c.args.end is c.requires.knows c.requires.may (subst (λ (k : KeeperValue). c.args.end ≤ k.cleaned) c.keeper.view_is (let le = c.if-end-keeper.true in omega (arith, le)))

pub returns : goal.returns
returns c =
    let k : KeeperValue = record { held = c.keeper.inside.handle.pass; limit = c.keeper.inside.limit; cleaned = c.keeper.inside.cleaned } in
    subst (λ (x : KeeperValue). CleansTo c.args.log.now.identity c.args.end x (record k { held = c.clean-region.new.pass; cleaned = c.args.end })) c.keeper.view_is
    (cleans_some c.args.log.now.identity k c.args.end c.clean-region.result.1 c.clean-region.new.pass c.keeper.invariant.keeping (subst KnowsLimit (sym c.keeper.view_is) c.requires.knows) (let gt = c.if-end-keeper.false in omega (arith, gt)) c.clean-region.ensures.cleans)
