use Rattle.std.proofs.Common.{◌∙◌, ℕ, arith, length, sym, subst}
use Rattle.std.specs.Prelude.{slice_set}
use Rattle.one_hand.specs.Reads.{Advances}
use Rattle.one_hand.specs.Hands.{stream_in}
use Rattle.one_hand.specs.Parts.{Numbers, Stands}
use Rattle.one_hand.proofs.GoingOn.{has_here, passes}
use Rattle.one_hand.proofs.Handing.{numbers, shown, there}
use Rattle.one_hand.proofs.Told as told
use Rattle.one_hand.proofs.Told.{known}
use Rattle.one_hand.proofs.log_hand.LogHand.advance.Goals as goal

pub advance_as-all-requires-clause-may : goal.advance_as-all-requires-clause-may
advance_as-all-requires-clause-may c =
    let n : Numbers = numbers c.self.inside in let is = sym c.take.ensures.value ∙ c.in-Some.is in
    told.may c.self.inside.log c.in-Some.all c.self.inside.held n (there c.self.inside c.in-Some.all c.self.invariant is) c.consumer_of-consumer.result c.self.inside.block c.self.inside.block c.args.self.now (shown c.self.inside c.in-Some.all c.args.self.now c.self.view_is is) c.args.reader c.requires.reader c.consumer_of-consumer.ensures.number c.consumer_of-consumer.ensures.place c.consumer_of-consumer.ensures.position

pub advance_as-all-requires-clause-has : goal.advance_as-all-requires-clause-has
advance_as-all-requires-clause-has c =
    let n : Numbers = numbers c.self.inside in let is = sym c.take.ensures.value ∙ c.in-Some.is in
    has_here c.self.inside.log c.in-Some.all c.self.inside.held n (there c.self.inside c.in-Some.all c.self.invariant is) c.consumer_of-consumer.result c.args.self.now (shown c.self.inside c.in-Some.all c.args.self.now c.self.view_is is) c.args.reader c.requires.reader c.consumer_of-consumer.ensures.place c.consumer_of-consumer.ensures.position c.requires.frame

came : (c : goal.Joined-self)
    → Advances c.args.self.now c.args.reader c.advance_as-all.result.1 (stream_in c.advance_as-all.result.0 c.self.inside.held)
    × Stands c.self.inside.log c.advance_as-all.result.0 c.self.inside.held (record { shares = c.self.inside.shares; positions = slice_set c.self.inside.positions c.args.reader c.advance_as-all.result.1; limit = c.self.inside.limit; cleaned = c.self.inside.cleaned; there = c.self.inside.there; block = length c.self.inside.block })
came c =
    let n : Numbers = numbers c.self.inside in let is = sym c.take.ensures.value ∙ c.in-Some.is in
    passes c.self.inside.log c.in-Some.all c.self.inside.held n (there c.self.inside c.in-Some.all c.self.invariant is) c.consumer_of-consumer.result c.args.self.now (shown c.self.inside c.in-Some.all c.args.self.now c.self.view_is is) c.args.reader c.requires.reader c.consumer_of-consumer.ensures.place c.consumer_of-consumer.ensures.position c.self.inside.block c.advance_as-all.result.0 c.advance_as-all.result.1 c.requires.frame c.advance_as-all.ensures.passed

pub invariant_of-self : goal.invariant_of-self
invariant_of-self c = subst (λ (k : ℕ). Stands c.self.inside.log c.advance_as-all.result.0 c.self.inside.held (record { shares = c.self.inside.shares; positions = slice_set c.self.inside.positions c.args.reader c.advance_as-all.result.1; limit = c.self.inside.limit; cleaned = c.self.inside.cleaned; there = c.self.inside.there; block = k })) (sym c.advance_as-all.ensures.same_length) (came c).1

pub returns : goal.returns
returns c = (came c).0

pub consumer_of-consumer-requires : goal.consumer_of-consumer-requires
consumer_of-consumer-requires c = known c.self.inside.log c.in-Some.all c.self.inside.held (numbers c.self.inside) (there c.self.inside c.in-Some.all c.self.invariant (sym c.take.ensures.value ∙ c.in-Some.is)) c.args.self.now (shown c.self.inside c.in-Some.all c.args.self.now c.self.view_is (sym c.take.ensures.value ∙ c.in-Some.is)) c.args.reader c.requires.reader

pub bounds-self-inside-reader : goal.bounds-self-inside-reader
bounds-self-inside-reader c = known c.self.inside.log c.in-Some.all c.self.inside.held (numbers c.self.inside) (there c.self.inside c.in-Some.all c.self.invariant (sym c.take.ensures.value ∙ c.in-Some.is)) c.args.self.now (shown c.self.inside c.in-Some.all c.args.self.now c.self.view_is (sym c.take.ensures.value ∙ c.in-Some.is)) c.args.reader c.requires.reader

pub offset_bounds-self-inside-reader : goal.offset_bounds-self-inside-reader
offset_bounds-self-inside-reader c = let low = known c.self.inside.log c.in-Some.all c.self.inside.held (numbers c.self.inside) (there c.self.inside c.in-Some.all c.self.invariant (sym c.take.ensures.value ∙ c.in-Some.is)) c.args.self.now (shown c.self.inside c.in-Some.all c.args.self.now c.self.view_is (sym c.take.ensures.value ∙ c.in-Some.is)) c.args.reader c.requires.reader in record { fits = omega (arith, low) }
