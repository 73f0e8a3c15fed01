use Rattle.std.proofs.Common.{◌≡◌, set, ap, subst, sym, ◌∙◌, arith}
use Rattle.std.specs.Prelude.{false}
use Rattle.publication.specs.declared.pass.Pass.{Pass}
use Rattle.log_rule.specs.Keepings.{MayLeave, left}
use Rattle.log_rule.specs.Kept.{IsThere}
use Rattle.shared_log.specs.Keepers.{IsKeeping, KeeperValue, KnowsWho, there_of}
use Rattle.shared_log.proofs.Holding.{keeper_kept}
use Rattle.shared_log.proofs.Joined.{knows_left, may_leave, there_below}
use Rattle.shared_log.proofs.keeper.joining.end_consumer.Goals as goal

pub end_consumer-requires-clause-may : goal.end_consumer-requires-clause-may
end_consumer-requires-clause-may c =
    subst (λ (k : KeeperValue). MayLeave k.held.pass c.args.place c.args.number) (sym c.keeper.view_is) (may_leave c.args.keeper.now c.args.place c.args.number (ap (λ (k : KeeperValue). k.held.pass.keeping.right) (sym c.keeper.view_is) ∙ c.keeper.invariant.keeping.keeper) c.requires.consumer c.requires.other)

pub invariant_of-keeper : goal.invariant_of-keeper
invariant_of-keeper c =
    let v : Pass = c.keeper.inside.handle.pass.pass in let is = c.keeper.invariant.keeping in let there : IsThere v.keeping.there c.requires.other.other = subst (λ (k : KeeperValue). IsThere (there_of k) c.requires.other.other) (sym c.keeper.view_is) c.requires.other.is in
    let seat = c.end_consumer.ensures.seat in let after : c.end_consumer.new.pass.pass ≡ left v c.args.place c.args.number = c.end_consumer.ensures.leaves in
    keeper_kept c.keeper.invariant seat.of seat.freed (ap (λ (p : Pass). p.identity) after) (ap (λ (p : Pass). p.start) after)
    (subst (λ (p : Pass). IsKeeping p c.keeper.inside.limit c.keeper.inside.cleaned) (sym after) record { some = is.some; keeper = is.keeper; limit_is = is.limit_is; cleaned_is = is.cleaned_is })
    (subst (λ (p : Pass). KnowsWho p (set c.keeper.inside.there c.args.number false)) (sym after) (knows_left v c.keeper.inside.there c.args.place c.args.number c.requires.other.other c.requires.other.another there (there_below v c.keeper.inside.there c.keeper.invariant.knows c.requires.other.other there) c.keeper.invariant.knows))

pub returns : goal.returns
returns c =
    let seat = c.end_consumer.ensures.seat in record {
      becomes = record {
        of = seat.of ∙ ap (λ (k : KeeperValue). k.held.of) c.keeper.view_is;
        seat = seat.seat ∙ ap (λ (k : KeeperValue). k.held.seat) c.keeper.view_is;
        pass_is = c.end_consumer.ensures.leaves ∙ ap (λ (k : KeeperValue). left k.held.pass c.args.place c.args.number) c.keeper.view_is;
        sure = seat.sure ∙ ap (λ (k : KeeperValue). k.held.sure) c.keeper.view_is;
        freed = seat.freed ∙ ap (λ (k : KeeperValue). k.held.freed) c.keeper.view_is;
        limit = ap (λ (k : KeeperValue). k.limit) c.keeper.view_is;
        cleaned = ap (λ (k : KeeperValue). k.cleaned) c.keeper.view_is;
      };
      controls = λ one. seat.controls (ap (λ (k : KeeperValue). k.held.sure) c.keeper.view_is ∙ one) ∙ ap (λ (k : KeeperValue). k.held.controls) c.keeper.view_is;
      steps = (let e = c.end_consumer.ensures.once in let is = ap (λ (k : KeeperValue). k.held.steps) c.keeper.view_is in omega (arith, e, is));
    }
