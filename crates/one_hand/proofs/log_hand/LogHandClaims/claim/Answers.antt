use Rattle.std.proofs.Common.{◌∙◌, ℕ, ◌+◌, ◌-◌, ◌<◌, ◌≤◌, Some, Ok, subst, sym, ap, arith}
use Rattle.std.specs.Prelude.{slice_index_or, slice_set}
use Rattle.std.proofs.lemmas.Result.{err_from_is_err_and}
use Rattle.theory.specs.Bytes.{Identity}
use Rattle.theory.specs.Position.{Geometry, framed_length, max_payload}
use Rattle.one_hand.specs.Stream.{Stream, after_claim, answer_of}
use Rattle.one_hand.specs.Hands.{range}
use Rattle.one_hand.specs.Legal.{IsStream}
use Rattle.one_hand.specs.Parts.{Stands}
use Rattle.one_hand.proofs.Handing.{claim_shares, hand_whole, nobody, numbers, share_fits, shown, stands_on, tail_fits, there}
use Rattle.one_hand.proofs.log_hand.LogHandClaims.claim.Goals as goal

pub overflow_add-self : goal.overflow_add-self
overflow_add-self c = let s = (there c.self.inside c.in-Some.all c.self.invariant (sym c.take.ensures.value ∙ c.in-Some.is)) in let q = c.claim_as-answer.new.all in let a = c.share.ensures in let b = c.share-before.ensures in let f = c.share.type_inv in
    let e = claim_shares c.self.inside.log c.in-Some.all q c.args.publisher c.args.size c.claim_as-answer.result c.claim_as-answer.ensures.accepted c.claim_as-answer.ensures.refused c.self.inside.held s.hand in
    let m = share_fits c.self.inside.log c.in-Some.all q e.0 c.args.publisher c.requires.publisher _ s.numbers e.2 e.1 in record { fits = omega arith }

pub invariant_of-self : goal.invariant_of-self
invariant_of-self c = let s = (there c.self.inside c.in-Some.all c.self.invariant (sym c.take.ensures.value ∙ c.in-Some.is)) in let e = c.in_err-start.ensures.refused c.self.inside.held s.hand in
    subst (λ (d : ℕ). Stands c.self.inside.log c.claim_as-answer.new.all c.self.inside.held (record (numbers c.self.inside) { shares = slice_set c.self.inside.shares c.args.publisher (slice_index_or c.self.inside.shares c.args.publisher 0 + d) })) (λ j. sym c.share.ensures j - sym c.share-before.ensures j)
    (stands_on c.self.inside.log c.in-Some.all c.claim_as-answer.new.all c.self.inside.held c.args.publisher c.requires.publisher (numbers c.self.inside) s.numbers e.shares e.hand)

pub invariant_of-self-2 : goal.invariant_of-self-2
invariant_of-self-2 c = let s = (there c.self.inside c.in-Some.all c.self.invariant (sym c.take.ensures.value ∙ c.in-Some.is)) in let e = c.in_ok-start.ensures.accepted c.self.inside.held s.hand in
    subst (λ (d : ℕ). Stands c.self.inside.log c.claim_as-answer.new.all (slice_set c.self.inside.held c.args.publisher (Some (range c.in_ok-start.start c.args.size))) (record (numbers c.self.inside) { shares = slice_set c.self.inside.shares c.args.publisher (slice_index_or c.self.inside.shares c.args.publisher 0 + d) })) (λ j. sym c.share.ensures j - sym c.share-before.ensures j)
    (stands_on c.self.inside.log c.in-Some.all c.claim_as-answer.new.all (slice_set c.self.inside.held c.args.publisher (Some (range c.in_ok-start.start c.args.size))) c.args.publisher c.requires.publisher (numbers c.self.inside) s.numbers e.shares e.hand)

pub returns-clause-after : goal.returns-clause-after
returns-clause-after c = (c.in_ok-start.ensures.accepted c.self.inside.held (there c.self.inside c.in-Some.all c.self.invariant (sym c.take.ensures.value ∙ c.in-Some.is)).hand).after ∙ ap (λ (x : Stream). after_claim x c.args.publisher c.args.size) (shown c.self.inside c.in-Some.all _ c.self.view_is (sym c.take.ensures.value ∙ c.in-Some.is))

pub claim_as-answer-requires-clause-number : goal.claim_as-answer-requires-clause-number
claim_as-answer-requires-clause-number c = c.requires.publisher

pub returns-clause-begins : goal.returns-clause-begins
returns-clause-begins c = (c.in_ok-start.ensures.accepted c.self.inside.held (there c.self.inside c.in-Some.all c.self.invariant (sym c.take.ensures.value ∙ c.in-Some.is)).hand).begins ∙ ap (λ (x : Stream). x.tail) (shown c.self.inside c.in-Some.all _ c.self.view_is (sym c.take.ensures.value ∙ c.in-Some.is))

pub returns-clause-accepted : goal.returns-clause-accepted
returns-clause-accepted c =
    let is = (shown c.self.inside c.in-Some.all _ c.self.view_is (sym c.take.ensures.value ∙ c.in-Some.is)) in
    sym (ap (λ (x : Stream). answer_of x c.args.size) is) ∙ (c.in_ok-start.ensures.accepted c.self.inside.held (there c.self.inside c.in-Some.all c.self.invariant (sym c.take.ensures.value ∙ c.in-Some.is)).hand).answered ∙ ap (λ (n : ℕ). Ok (c.in_ok-start.start + n)) (ap (λ (x : Stream). framed_length x.identity.geometry c.args.size) is ∙ sym (c.from.ensures ∙ c.framed_length-covered.ensures ∙ ap (λ (h : Geometry). framed_length h c.args.size) c.geometry.ensures.value))

pub returns-in_err-start-clause-after : goal.returns-in_err-start-clause-after
returns-in_err-start-clause-after c = (c.in_err-start.ensures.refused c.self.inside.held (there c.self.inside c.in-Some.all c.self.invariant (sym c.take.ensures.value ∙ c.in-Some.is)).hand).after ∙ ap (λ (x : Stream). after_claim x c.args.publisher c.args.size) (shown c.self.inside c.in-Some.all _ c.self.view_is (sym c.take.ensures.value ∙ c.in-Some.is))

pub returns-in_err-start-clause-refused : goal.returns-in_err-start-clause-refused
returns-in_err-start-clause-refused c =
    let answered = (c.in_err-start.ensures.refused c.self.inside.held (there c.self.inside c.in-Some.all c.self.invariant (sym c.take.ensures.value ∙ c.in-Some.is)).hand).answered in
    let p = err_from_is_err_and c.from_residual.result c.from_residual.ensures.1 in
    rw (p.1, p.2) (sym (ap (λ (x : Stream). answer_of x c.args.size) (shown c.self.inside c.in-Some.all _ c.self.view_is (sym c.take.ensures.value ∙ c.in-Some.is))) ∙ answered)

pub returns-in_err-start-clause-begins : goal.returns-in_err-start-clause-begins
returns-in_err-start-clause-begins c =
    let p = err_from_is_err_and c.from_residual.result c.from_residual.ensures.1 in
    rw p.1 tt

pub returns-in_err-start-clause-accepted : goal.returns-in_err-start-clause-accepted
returns-in_err-start-clause-accepted c =
    let p = err_from_is_err_and c.from_residual.result c.from_residual.ensures.1 in
    rw p.1 tt

pub claim_as-answer-requires-clause-free : goal.claim_as-answer-requires-clause-free
claim_as-answer-requires-clause-free c = let s = (there c.self.inside c.in-Some.all c.self.invariant (sym c.take.ensures.value ∙ c.in-Some.is)) in s.hand.free

pub claim_as-answer-requires-clause-short : goal.claim_as-answer-requires-clause-short
claim_as-answer-requires-clause-short c =
    let s = (there c.self.inside c.in-Some.all c.self.invariant (sym c.take.ensures.value ∙ c.in-Some.is)) in
    let is = shown c.self.inside c.in-Some.all _ c.self.view_is (sym c.take.ensures.value ∙ c.in-Some.is) in
    subst (λ (i : Identity). c.args.size ≤ max_payload i.geometry) (sym (ap (λ (x : Stream). x.identity) is) ∙ s.hand.free.of.identity) c.requires.short

pub overflow_sub-self : goal.overflow_sub-self
overflow_sub-self c =
    let s = (there c.self.inside c.in-Some.all c.self.invariant (sym c.take.ensures.value ∙ c.in-Some.is)) in let q = c.claim_as-answer.new.all in
    let e = claim_shares c.self.inside.log c.in-Some.all q c.args.publisher c.args.size c.claim_as-answer.result c.claim_as-answer.ensures.accepted c.claim_as-answer.ensures.refused c.self.inside.held s.hand in
    subst (λ (x : ℕ × ℕ). x.0 ≤ x.1) (λ j. (sym c.share-before.ensures j, sym c.share.ensures j)) e.2.more

pub unreachable-requires : goal.unreachable-requires
unreachable-requires c = nobody c.self.inside c.self.invariant (sym c.take.ensures.value ∙ c.in_default.is)

pub unreachable-unreachable : goal.unreachable-unreachable
unreachable-unreachable c = nobody c.self.inside c.self.invariant (sym c.take.ensures.value ∙ c.in_default.is)

pub overflow_add-result : goal.overflow_add-result
overflow_add-result c =
    let whole : IsStream c.args.self.now = subst IsStream c.self.view_is (hand_whole c.self.inside.log c.self.inside.all c.self.inside.held _ c.self.invariant) in
    record { fits = tail_fits c.args.self.now c.in_ok-start.start c.from.result whole ((c.in_ok-start.ensures.accepted c.self.inside.held (there c.self.inside c.in-Some.all c.self.invariant (sym c.take.ensures.value ∙ c.in-Some.is)).hand).begins ∙ ap (λ (x : Stream). x.tail) (shown c.self.inside c.in-Some.all _ c.self.view_is (sym c.take.ensures.value ∙ c.in-Some.is))) (subst (λ (n : ℕ). n < 4294967296) (sym c.from.ensures) c.framed_length-covered.type_inv) }
