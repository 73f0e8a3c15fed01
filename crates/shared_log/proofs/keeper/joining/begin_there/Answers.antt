use Rattle.std.proofs.Common.{◌≡◌, set, ap, subst, sym, ◌∙◌, arith}
use Rattle.std.specs.Prelude.{true}
use Rattle.publication.specs.declared.pass.Pass.{Pass}
use Rattle.log_rule.specs.Keepings.{joined}
use Rattle.shared_log.specs.Keepers.{IsKeeping, KeeperValue, KnowsWho}
use Rattle.shared_log.proofs.Holding.{keeper_kept}
use Rattle.shared_log.proofs.Joined.{knows_joined}
use Rattle.shared_log.proofs.keeper.joining.begin_there.Goals as goal

pub invariant_of-keeper : goal.invariant_of-keeper
invariant_of-keeper c =
    let v : Pass = c.keeper.inside.handle.pass.pass in let is = c.keeper.invariant.keeping in let seat = c.begin_consumer.ensures.seat in
    let after : c.begin_consumer.new.pass.pass ≡ joined v c.args.number c.args.place c.args.position = c.begin_consumer.ensures.joins in
    keeper_kept c.keeper.invariant seat.of seat.freed (ap (λ (p : Pass). p.identity) after) (ap (λ (p : Pass). p.start) after)
    (subst (λ (p : Pass). IsKeeping p c.keeper.inside.limit c.keeper.inside.cleaned) (sym after) record { some = is.some; keeper = is.keeper; limit_is = is.limit_is; cleaned_is = is.cleaned_is })
    (subst (λ (p : Pass). KnowsWho p (set c.keeper.inside.there c.args.number true)) (sym after) (knows_joined v c.keeper.inside.there c.args.number c.args.place c.args.position c.requires.may.inside c.keeper.invariant.knows))

pub returns-clause-becomes : goal.returns-clause-becomes
returns-clause-becomes c =
    let seat = c.begin_consumer.ensures.seat in record {
      of = seat.of ∙ ap (λ (k : KeeperValue). k.held.of) c.keeper.view_is;
      seat = seat.seat ∙ ap (λ (k : KeeperValue). k.held.seat) c.keeper.view_is;
      pass_is = c.begin_consumer.ensures.joins ∙ ap (λ (k : KeeperValue). joined k.held.pass c.args.number c.args.place c.args.position) c.keeper.view_is;
      sure = seat.sure ∙ ap (λ (k : KeeperValue). k.held.sure) c.keeper.view_is;
      freed = seat.freed ∙ ap (λ (k : KeeperValue). k.held.freed) c.keeper.view_is;
      limit = ap (λ (k : KeeperValue). k.limit) c.keeper.view_is;
      cleaned = ap (λ (k : KeeperValue). k.cleaned) c.keeper.view_is;
    }

pub returns-clause-controls : goal.returns-clause-controls
returns-clause-controls c one = c.begin_consumer.ensures.seat.controls (ap (λ (k : KeeperValue). k.held.sure) c.keeper.view_is ∙ one) ∙ ap (λ (k : KeeperValue). k.held.controls) c.keeper.view_is

pub returns-clause-once : goal.returns-clause-once
returns-clause-once c = (let e = c.begin_consumer.ensures.once in let is = ap (λ (k : KeeperValue). k.held.steps) c.keeper.view_is in omega (arith, e, is))
