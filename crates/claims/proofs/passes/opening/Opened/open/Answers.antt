use Rattle.std.proofs.Common.{◌≡◌, ◌+◌, ◌≤◌, List, All, length, sym, ◌∙◌, subst, arith}
use Rattle.std.specs.declared.option.Option.TheVariants.{Some}
use Rattle.shared_log.specs.Steps.Handles.{IsOf, LogValue, PublisherValue}
use Rattle.shared_log.specs.Keepers.{KeeperValue}
use Rattle.claims.specs.Passes.Reading.{IsUnread}
use Rattle.claims.proofs.Openers.{keeper_fits, publishers_fit, readers_fit}
use Rattle.claims.proofs.passes.opening.Opened.open.Goals as goal

pub invariant_of-result : goal.invariant_of-result
invariant_of-result c =
    let dealt = c.in-Ok.ensures.parts in let here = sym c.in-Ok-new.ensures.ok in let l : LogValue = c.in-Ok.opened.0 in
    let many : length c.in-Ok.opened.1.readers.items ≡ c.args.config.now.consumers = dealt.all ∙ c.in-Ok.ensures.log.consumers_is in
    let few : 0 + length c.in-Ok.opened.1.readers.items ≤ 8 = (let most = c.in-Ok.ensures.in_range.1.1 in omega (arith, many, most)) in record {
      publishers_fit = subst (λ (x : LogValue × List PublisherValue). All (IsOf x.0) x.1) (λ j. (here j, sym c.in-Ok-from_array.ensures.items j)) (publishers_fit l 0 c.in-Ok.opened.1.claimants dealt.publishers_are);
      readers_fit = subst (λ (x : LogValue). All (IsUnread x) c.in-Ok.opened.1.readers.items) here (readers_fit l 0 c.in-Ok.opened.1.readers.items dealt.readers_are few);
      keeper_fits = subst (λ (x : LogValue). (k : KeeperValue) → Some c.in-Ok.opened.1.keeper ≡ Some k → IsOf x k.held) here (keeper_fits l c.in-Ok.opened.1.keeper dealt.keeper_is);
    }
