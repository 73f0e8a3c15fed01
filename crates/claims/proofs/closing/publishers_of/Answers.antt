use Rattle.std.proofs.Common.{rules, ◌≡◌, ◌+◌, List, [], ◌∷◌, ◌++◌, All, length, vec_len, sym, ap, ◌∙◌, subst, append_assoc, arith}
use Rattle.shared_log.specs.Steps.Handles.{IsOf, PublisherValue}
use Rattle.shared_log.specs.Books.{IsDone}
use Rattle.claims.proofs.Handed.{all_rest, all_snoc, append_none}
use Rattle.claims.proofs.closing.publishers_of.Goals as goal

pub loop-claimant-init : goal.loop-claimant-init
loop-claimant-init c =
    let same = c.into_iter-claimant-iterator.ensures.into_iter_gives.0 in let none = c.requires.none in record {
      same = λ i. none i ++ same i;
      done = subst (All (IsDone c.args.log.now)) (sym none) (λ k d lt. absurd (omega (arith, lt)));
      of = subst (All (IsOf c.args.log.now)) (sym same) c.requires.of;
      room = (let n = ap (λ (ps : List PublisherValue). length ps) none in let m = ap (λ (ps : List PublisherValue). length ps) same in let ok = c.args.publishers.ok.0 in let fits = c.requires.room in omega (arith, n, m, ok, fits));
    }

pub unwrap-requires : goal.unwrap-requires
unwrap-requires c = let e = ap (λ (ps : List PublisherValue). length ps) c.in-Some.ensures.steps.0 in let room = c.loop-claimant.invariant.room in c.push.ensures.succeeds (omega (arith, e, room))

pub loop-claimant-preserved : goal.loop-claimant-preserved
loop-claimant-preserved c =
    let head = c.in-Some.ensures.steps.0 in let e = ap (λ (ps : List PublisherValue). length ps) head in let room = c.loop-claimant.invariant.room in
    let pushed : c.push.new.self.items ≡ c.loop-claimant.publishers.items ++ c.ended.result ∷ [] = rw c.unwrap.ensures at c.push.ensures.items in
    let longer : vec_len c.push.new.self ≡ vec_len c.loop-claimant.publishers + 1 = rw c.unwrap.ensures at c.push.ensures.len in
    let left = subst (All (IsOf c.args.log.now)) head c.loop-claimant.invariant.of in record {
      same = ap (λ (ps : List PublisherValue). ps ++ c.next.new.self.rest.items) pushed ∙ append_assoc c.loop-claimant.publishers.items (c.ended.result ∷ []) c.next.new.self.rest.items
          ∙ (λ i. c.loop-claimant.publishers.items ++ c.ended.ensures.same i ∷ c.next.new.self.rest.items) ∙ ap (λ (ps : List PublisherValue). c.loop-claimant.publishers.items ++ ps) (sym head) ∙ c.loop-claimant.invariant.same;
      done = subst (All (IsDone c.args.log.now)) (sym pushed) (all_snoc (IsDone c.args.log.now) c.loop-claimant.publishers.items c.ended.result c.loop-claimant.invariant.done c.ended.ensures.done);
      of = all_rest (IsOf c.args.log.now) c.in-Some.claimant c.next.new.self.rest.items left;
      room = (let wide = c.push.ensures.capacity in omega (arith, e, room, longer, wide));
    }

pub returns-clause-same : goal.returns-clause-same
returns-clause-same c =
    let none : length c.loop-claimant.claimant-iterator.rest.items ≡ 0 = search rules in
    sym (append_none c.loop-claimant.publishers.items c.loop-claimant.claimant-iterator.rest.items none) ∙ c.loop-claimant.invariant.same

pub returns-clause-done : goal.returns-clause-done
returns-clause-done c = c.loop-claimant.invariant.done
