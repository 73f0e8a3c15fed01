use Rattle.std.proofs.Common.{◌∙◌, ap, subst, sym}
use Rattle.one_hand.specs.Stream.{HasConsumer, HasOther, Stream, without_consumer}
use Rattle.one_hand.proofs.Flags.{may_keep}
use Rattle.one_hand.proofs.Handing.{numbers, shown, there}
use Rattle.one_hand.proofs.Joined.{left_is, may_end, other_there, stands_left}
use Rattle.one_hand.proofs.Told.{known}
use Rattle.one_hand.proofs.log_hand.LogHand.leave.Goals as goal

pub place_of-requires : goal.place_of-requires
place_of-requires c = known c.self.inside.log c.in-Some.all c.self.inside.held (numbers c.self.inside) (there c.self.inside c.in-Some.all c.self.invariant (sym c.take.ensures.value ∙ c.in-Some.is)) c.args.self.now (shown c.self.inside c.in-Some.all c.args.self.now c.self.view_is (sym c.take.ensures.value ∙ c.in-Some.is)) c.args.reader c.requires.consumer

pub end_as-all-requires-clause-may : goal.end_as-all-requires-clause-may
end_as-all-requires-clause-may c = may_keep c.self.inside.log c.in-Some.all c.self.inside.held (numbers c.self.inside) (there c.self.inside c.in-Some.all c.self.invariant (sym c.take.ensures.value ∙ c.in-Some.is))

pub end_as-all-requires-clause-consumer : goal.end_as-all-requires-clause-consumer
end_as-all-requires-clause-consumer c = may_end c.self.inside.log c.in-Some.all c.self.inside.held (numbers c.self.inside) (there c.self.inside c.in-Some.all c.self.invariant (sym c.take.ensures.value ∙ c.in-Some.is)) c.args.reader c.place_of.result c.place_of.ensures c.in-Some.all (subst (λ (s : Stream). HasConsumer s c.args.reader) (sym (shown c.self.inside c.in-Some.all c.args.self.now c.self.view_is (sym c.take.ensures.value ∙ c.in-Some.is))) c.requires.consumer) (subst (λ (s : Stream). HasOther s c.args.reader) (sym (shown c.self.inside c.in-Some.all c.args.self.now c.self.view_is (sym c.take.ensures.value ∙ c.in-Some.is))) c.requires.other)

pub end_as-all-requires-clause-other : goal.end_as-all-requires-clause-other
end_as-all-requires-clause-other c = other_there c.self.inside.log c.in-Some.all c.self.inside.held (numbers c.self.inside) (there c.self.inside c.in-Some.all c.self.invariant (sym c.take.ensures.value ∙ c.in-Some.is)) c.args.reader c.place_of.result c.place_of.ensures c.in-Some.all (subst (λ (s : Stream). HasConsumer s c.args.reader) (sym (shown c.self.inside c.in-Some.all c.args.self.now c.self.view_is (sym c.take.ensures.value ∙ c.in-Some.is))) c.requires.consumer) (subst (λ (s : Stream). HasOther s c.args.reader) (sym (shown c.self.inside c.in-Some.all c.args.self.now c.self.view_is (sym c.take.ensures.value ∙ c.in-Some.is))) c.requires.other)

pub bounds-self-inside-reader : goal.bounds-self-inside-reader
bounds-self-inside-reader c = known c.self.inside.log c.in-Some.all c.self.inside.held (numbers c.self.inside) (there c.self.inside c.in-Some.all c.self.invariant (sym c.take.ensures.value ∙ c.in-Some.is)) c.args.self.now (shown c.self.inside c.in-Some.all c.args.self.now c.self.view_is (sym c.take.ensures.value ∙ c.in-Some.is)) c.args.reader c.requires.consumer

pub invariant_of-self : goal.invariant_of-self
invariant_of-self c = stands_left c.self.inside.log c.in-Some.all c.self.inside.held (numbers c.self.inside) (there c.self.inside c.in-Some.all c.self.invariant (sym c.take.ensures.value ∙ c.in-Some.is)) c.args.reader c.place_of.result c.place_of.ensures c.end_as-all.result (subst (λ (s : Stream). HasConsumer s c.args.reader) (sym (shown c.self.inside c.in-Some.all c.args.self.now c.self.view_is (sym c.take.ensures.value ∙ c.in-Some.is))) c.requires.consumer) (subst (λ (s : Stream). HasOther s c.args.reader) (sym (shown c.self.inside c.in-Some.all c.args.self.now c.self.view_is (sym c.take.ensures.value ∙ c.in-Some.is))) c.requires.other) c.end_as-all.ensures

pub returns : goal.returns
returns c = left_is c.self.inside.log c.in-Some.all c.self.inside.held (numbers c.self.inside) (there c.self.inside c.in-Some.all c.self.invariant (sym c.take.ensures.value ∙ c.in-Some.is)) c.args.reader c.place_of.result c.place_of.ensures c.end_as-all.result (subst (λ (s : Stream). HasConsumer s c.args.reader) (sym (shown c.self.inside c.in-Some.all c.args.self.now c.self.view_is (sym c.take.ensures.value ∙ c.in-Some.is))) c.requires.consumer) (subst (λ (s : Stream). HasOther s c.args.reader) (sym (shown c.self.inside c.in-Some.all c.args.self.now c.self.view_is (sym c.take.ensures.value ∙ c.in-Some.is))) c.requires.other) c.end_as-all.ensures ∙ ap (λ (s : Stream). without_consumer s c.args.reader) (shown c.self.inside c.in-Some.all c.args.self.now c.self.view_is (sym c.take.ensures.value ∙ c.in-Some.is))
