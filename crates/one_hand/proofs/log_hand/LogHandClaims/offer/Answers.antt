use Rattle.std.proofs.Common.{◌∙◌, ℕ, ◌+◌, ◌-◌, ◌≤◌, length, ap, subst, sym, arith}
use Rattle.std.specs.Prelude.{slice_index_or, slice_set}
use Rattle.one_hand.specs.Parts.{Stands}
use Rattle.one_hand.specs.Stream.{Stream, after_offer, answer_of}
use Rattle.one_hand.proofs.Handing.{nobody, numbers, share_fits, shown, stands_on, there}
use Rattle.one_hand.proofs.log_hand.LogHandClaims.offer.Goals as goal

pub overflow_add-self : goal.overflow_add-self
overflow_add-self c = let s = (there c.self.inside c.in-Some.all c.self.invariant (sym c.take.ensures.value ∙ c.in-Some.is)) in let e = c.offer_as-answer.ensures c.self.inside.held s.hand in let q = c.offer_as-answer.new.all in let a = c.share.ensures in let b = c.share-before.ensures in let f = c.share.type_inv in
    let m = share_fits c.self.inside.log c.in-Some.all q c.self.inside.held c.args.publisher c.requires.publisher _ s.numbers e.shares e.hand in record { fits = omega arith }

pub invariant_of-self : goal.invariant_of-self
invariant_of-self c = let s = (there c.self.inside c.in-Some.all c.self.invariant (sym c.take.ensures.value ∙ c.in-Some.is)) in let e = c.offer_as-answer.ensures c.self.inside.held s.hand in
    subst (λ (d : ℕ). Stands c.self.inside.log c.offer_as-answer.new.all c.self.inside.held (record (numbers c.self.inside) { shares = slice_set c.self.inside.shares c.args.publisher (slice_index_or c.self.inside.shares c.args.publisher 0 + d) })) (λ j. sym c.share.ensures j - sym c.share-before.ensures j)
    (stands_on c.self.inside.log c.in-Some.all c.offer_as-answer.new.all c.self.inside.held c.args.publisher c.requires.publisher (numbers c.self.inside) s.numbers e.shares e.hand)

pub offer_as-answer-requires-clause-free : goal.offer_as-answer-requires-clause-free
offer_as-answer-requires-clause-free c = let s = (there c.self.inside c.in-Some.all c.self.invariant (sym c.take.ensures.value ∙ c.in-Some.is)) in s.hand.free

pub overflow_sub-self : goal.overflow_sub-self
overflow_sub-self c =
    let s = (there c.self.inside c.in-Some.all c.self.invariant (sym c.take.ensures.value ∙ c.in-Some.is)) in let e = c.offer_as-answer.ensures c.self.inside.held s.hand in
    subst (λ (x : ℕ × ℕ). x.0 ≤ x.1) (λ j. (sym c.share-before.ensures j, sym c.share.ensures j)) e.shares.more

pub returns-clause-answer : goal.returns-clause-answer
returns-clause-answer c =
    let s = (there c.self.inside c.in-Some.all c.self.invariant (sym c.take.ensures.value ∙ c.in-Some.is)) in let e = c.offer_as-answer.ensures c.self.inside.held s.hand in
    e.answered ∙ ap (λ (x : Stream). answer_of x (length c.args.message.now)) (shown c.self.inside c.in-Some.all _ c.self.view_is (sym c.take.ensures.value ∙ c.in-Some.is))

pub returns-clause-after : goal.returns-clause-after
returns-clause-after c =
    let s = (there c.self.inside c.in-Some.all c.self.invariant (sym c.take.ensures.value ∙ c.in-Some.is)) in let e = c.offer_as-answer.ensures c.self.inside.held s.hand in
    e.after ∙ ap (λ (x : Stream). after_offer x c.args.publisher c.args.message.now) (shown c.self.inside c.in-Some.all _ c.self.view_is (sym c.take.ensures.value ∙ c.in-Some.is))

pub unreachable-requires : goal.unreachable-requires
unreachable-requires c = nobody c.self.inside c.self.invariant (sym c.take.ensures.value ∙ c.in_default.is)

pub unreachable-unreachable : goal.unreachable-unreachable
unreachable-unreachable c = nobody c.self.inside c.self.invariant (sym c.take.ensures.value ∙ c.in_default.is)
