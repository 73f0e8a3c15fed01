use Rattle.std.proofs.Common.{◌≡◌, ℕ, ◌+◌, ◌<◌, ◌∙◌, List, length, ap, sym, subst, arith}
use Rattle.std.specs.Prelude.{slice_index}
use Rattle.theory.specs.Bytes.{Identity}
use Rattle.theory.specs.Position.{max_position}
use Rattle.shared_log.specs.Keepers.{IsKeeping, KeeperValue, KnowsWho, flag_of, there_of}
use Rattle.shared_log.proofs.Joined.{flags_eight, flags_low}
use Rattle.shared_log.proofs.Sweeping.{SweepsSome, last, next, none, passes, there_on}
use Rattle.shared_log.proofs.keeper.sweep.Goals as goal
use Rattle.shared_log.proofs.keeper.sweep.Goals.{then-has_consumer, else-has_consumer}

pub loop-number-init : goal.loop-number-init
loop-number-init c =
    let knows : KnowsWho c.args.keeper.now.held.pass c.keeper.inside.there = subst (λ (k : KeeperValue). KnowsWho k.held.pass c.keeper.inside.there) c.keeper.view_is c.keeper.invariant.knows in
    subst (λ n. SweepsSome c.args.log.now c.args.keeper.now 0 n c.args.keeper.now) (sym (c.max_position-least.ensures.value ∙ ap max_position (c.geometry.ensures.value ∙ ap (λ (i : Identity). i.geometry) c.identity.ensures.is))) (none c.args.log.now c.args.keeper.now knows.eight)

pub loop-number-preserved : goal.loop-number-preserved
loop-number-preserved c =
    let knows : KnowsWho c.args.keeper.now.held.pass c.keeper.inside.there = subst (λ (k : KeeperValue). KnowsWho k.held.pass c.keeper.inside.there) c.keeper.view_is c.keeper.invariant.knows in
    let is : IsKeeping c.args.keeper.now.held.pass c.args.keeper.now.limit c.args.keeper.now.cleaned = subst (λ (k : KeeperValue). IsKeeping k.held.pass k.limit k.cleaned) c.keeper.view_is c.keeper.invariant.keeping in
    let low : c.loop-number.number < length (there_of c.args.keeper.now) = (let e = flags_eight c.args.keeper.now.held.pass c.keeper.inside.there knows in let lt = c.loop-number-test.true in omega arith) in
    let same : there_of c.loop-number.keeper ≡ there_of c.args.keeper.now = there_on c.args.log.now c.args.keeper.now c.loop-number.keeper c.loop-number.number c.loop-number.least c.loop-number.invariant in
    let flag : slice_index (there_of c.args.keeper.now) c.loop-number.number ≡ flag_of c.has_consumer.result = ap (λ (l : List ℕ). slice_index l c.loop-number.number) (sym same) ∙ c.has_consumer.ensures in
    elim c.if-has_consumer.branch [
      | then-has_consumer w ↦ subst (λ (x : ℕ × KeeperValue). SweepsSome c.args.log.now c.args.keeper.now (c.loop-number.number + 1) x.0 x.1) (λ i. ((sym (w.least-is ∙ w.min-least.ensures)) i, sym w.keeper-is i))
          (next c.args.log.now c.args.keeper.now c.loop-number.keeper w.see.new.keeper c.loop-number.number c.loop-number.least w.see.result c.requires.fits is c.loop-number.invariant low (flag ∙ ap flag_of w.if-has_consumer.true) w.see.ensures.sees w.see.ensures.keeps w.see.ensures.once w.see.ensures.freed)
      | else-has_consumer w ↦ subst (λ (x : ℕ × KeeperValue). SweepsSome c.args.log.now c.args.keeper.now (c.loop-number.number + 1) x.0 x.1) (λ i. (sym w.least-is i, sym w.keeper-is i))
          (passes c.args.log.now c.args.keeper.now c.loop-number.keeper c.loop-number.number c.loop-number.least c.loop-number.invariant low (flag ∙ ap flag_of w.if-has_consumer.false))
    ]

pub returns : goal.returns
returns c =
    let knows : KnowsWho c.args.keeper.now.held.pass c.keeper.inside.there = subst (λ (k : KeeperValue). KnowsWho k.held.pass c.keeper.inside.there) c.keeper.view_is c.keeper.invariant.knows in
    let is : IsKeeping c.args.keeper.now.held.pass c.args.keeper.now.limit c.args.keeper.now.cleaned = subst (λ (k : KeeperValue). IsKeeping k.held.pass k.limit k.cleaned) c.keeper.view_is c.keeper.invariant.keeping in
    let end : c.loop-number.number ≡ 8 = (let a = c.loop-number.auto.number-end in let b = c.loop-number-test.false in omega arith) in
    last c.args.log.now c.args.keeper.now c.loop-number.keeper c.loop-number.least knows.one c.requires.fits is (flags_eight c.args.keeper.now.held.pass c.keeper.inside.there knows) (flags_low c.args.keeper.now.held.pass c.keeper.inside.there knows) knows.low knows.any
    (subst (λ n. SweepsSome c.args.log.now c.args.keeper.now n c.loop-number.least c.loop-number.keeper) end c.loop-number.invariant)
