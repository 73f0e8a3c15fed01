use Rattle.std.proofs.Common.{◌≡◌, ℕ, ◌+◌, List, [], ◌∷◌, length, sym, refl, ◌∙◌, subst, arith}
use Rattle.std.specs.Prelude.{Some, slice_index, slice_set}
use Rattle.std.proofs.lemmas.List.Elements.{All-pop}
use Rattle.shared_log.specs.Steps.Handles.{PublisherValue}
use Rattle.shared_log.specs.Books.{IsDone, ShowsBook}
use Rattle.shared_log.proofs.Gathered.{IsGathering, begun, gathered_on, knows_committed, shows, sums_low}
use Rattle.shared_log.proofs.closing.gathered.Goals as goal

one_more : (c : goal.After-gather-number) → IsGathering c.args.log c.args.keeper.held.pass.reading c.args.publishers.items c.pop.new.self.items (slice_set c.loop-publisher.shares c.gather-number.result.0 (slice_index c.loop-publisher.shares c.gather-number.result.0 + c.gather-number.result.1)) (c.loop-publisher.tail + c.gather-number.result.1) c.gather-number.new.keeper.held
one_more c =
    gathered_on c.args.log c.args.keeper.held.pass.reading c.args.publishers.items c.loop-publisher.publishers.items c.pop.new.self.items c.loop-publisher.shares c.loop-publisher.tail c.gather-number.result.0 c.gather-number.result.1 c.in-Some.publisher c.loop-publisher.keeper.held c.gather-number.new.keeper.held c.loop-publisher.invariant.2
    c.in-Some.ensures.items (All-pop (IsDone c.args.log) _ _ c.pop.result c.pop.ensures.items c.loop-publisher.invariant.2.undone).0 c.gather-number.ensures.entries c.gather-number.ensures.committed c.gather-number.ensures.idle c.gather-number.ensures.gathers

pub overflow_add-shares : goal.overflow_add-shares
overflow_add-shares c = let n = c.gather-number.ensures.gathers.number in let low = (sums_low c.args.log _ _ _ c.loop-publisher.shares c.loop-publisher.tail c.gather-number.result.0 c.gather-number.result.1 _ (one_more c) (omega (arith, n.0, n.1)) c.gather-number.ensures.low).1 in omega (arith, low)

pub overflow_add-tail : goal.overflow_add-tail
overflow_add-tail c = let n = c.gather-number.ensures.gathers.number in let low = (sums_low c.args.log _ _ _ c.loop-publisher.shares c.loop-publisher.tail c.gather-number.result.0 c.gather-number.result.1 _ (one_more c) (omega (arith, n.0, n.1)) c.gather-number.ensures.low).0 in omega (arith, low)

pub loop-publisher-init : goal.loop-publisher-init
loop-publisher-init c = (
  refl,
  c.start-start.ensures.is,
  subst (λ (n : ℕ). IsGathering c.args.log c.args.keeper.held.pass.reading c.args.publishers.items c.args.publishers.items (0 ∷ 0 ∷ 0 ∷ 0 ∷ 0 ∷ 0 ∷ 0 ∷ 0 ∷ []) n c.weigh.new.keeper.held) (sym c.start-start.ensures.is)
      (begun c.args.log c.args.publishers.items c.args.keeper c.weigh.new.keeper c.requires c.weigh.ensures.weighs c.weigh.ensures.idle),
)

pub gather-number-requires-clause-publisher : goal.gather-number-requires-clause-publisher
gather-number-requires-clause-publisher c = (All-pop (IsDone c.args.log) _ _ (Some c.in-Some.publisher) c.in-Some.ensures.items c.loop-publisher.invariant.2.undone).1

pub loop-publisher-preserved : goal.loop-publisher-preserved
loop-publisher-preserved c = (refl, c.loop-publisher.invariant.1, one_more c)

empty : (ps : List PublisherValue) → length ps ≡ 0 → ps ≡ []
empty [] e = refl
empty (p ∷ ps) e = absurd (omega (arith, e))

pub returns-clause-shows : goal.returns-clause-shows
returns-clause-shows c =
    let none : c.loop-publisher.publishers.items ≡ [] = empty c.loop-publisher.publishers.items (sym c.loop-publisher.publishers.ok.0 ∙ c.in_default.ensures.cases.0) in
    let all = subst (λ (ps : List PublisherValue). IsGathering c.args.log c.args.keeper.held.pass.reading c.args.publishers.items ps c.loop-publisher.shares c.loop-publisher.tail c.loop-publisher.keeper.held) none c.loop-publisher.invariant.2 in
    subst (λ (n : ℕ). ShowsBook c.args.log c.args.publishers.items (record { start = n; tail = c.loop-publisher.tail; shares = c.loop-publisher.shares })) (sym c.loop-publisher.invariant.1)
    (shows c.args.log c.args.keeper.held.pass.reading c.args.publishers.items c.loop-publisher.shares c.loop-publisher.tail c.loop-publisher.keeper.held c.weigh.ensures.geometry all)

pub returns-clause-known : goal.returns-clause-known
returns-clause-known c =
    let none : c.loop-publisher.publishers.items ≡ [] = empty c.loop-publisher.publishers.items (sym c.loop-publisher.publishers.ok.0 ∙ c.in_default.ensures.cases.0) in
    let all = subst (λ (ps : List PublisherValue). IsGathering c.args.log c.args.keeper.held.pass.reading c.args.publishers.items ps c.loop-publisher.shares c.loop-publisher.tail c.loop-publisher.keeper.held) none c.loop-publisher.invariant.2 in
    knows_committed c.args.log c.args.keeper.held.pass.reading c.args.publishers.items c.loop-publisher.shares c.loop-publisher.tail c.loop-publisher.keeper.held all
