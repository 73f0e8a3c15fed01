use Rattle.std.proofs.Common.{◌∙◌, sym}
use Rattle.one_hand.proofs.Handing.{numbers, shown, there}
use Rattle.one_hand.proofs.Told as told
use Rattle.one_hand.proofs.Told.{known}
use Rattle.one_hand.proofs.log_hand.LogHand.next.Goals as goal

pub next_as-all-requires-clause-may : goal.next_as-all-requires-clause-may
next_as-all-requires-clause-may c = told.may c.self.inside.log c.in-Some.all c.self.inside.held (numbers c.self.inside) (there c.self.inside c.in-Some.all c.self.invariant (sym c.take.ensures.value ∙ c.in-Some.is)) c.consumer_of-consumer.result c.args.block.now c.args.block.now c.args.self.now (shown c.self.inside c.in-Some.all c.args.self.now c.self.view_is (sym c.take.ensures.value ∙ c.in-Some.is)) c.args.reader c.requires.reader c.consumer_of-consumer.ensures.number c.consumer_of-consumer.ensures.place c.consumer_of-consumer.ensures.position

pub invariant_of-self : goal.invariant_of-self
invariant_of-self c = (told.next_stays c.self.inside.log c.in-Some.all c.self.inside.held (numbers c.self.inside) (there c.self.inside c.in-Some.all c.self.invariant (sym c.take.ensures.value ∙ c.in-Some.is)) c.consumer_of-consumer.result c.args.block.now c.next_as-all.new.block c.next_as-all.result.0 c.next_as-all.result.1 c.next_as-all.ensures.found c.next_as-all.ensures.none).0

pub returns-clause-same : goal.returns-clause-same
returns-clause-same c = (told.next_stays c.self.inside.log c.in-Some.all c.self.inside.held (numbers c.self.inside) (there c.self.inside c.in-Some.all c.self.invariant (sym c.take.ensures.value ∙ c.in-Some.is)) c.consumer_of-consumer.result c.args.block.now c.next_as-all.new.block c.next_as-all.result.0 c.next_as-all.result.1 c.next_as-all.ensures.found c.next_as-all.ensures.none).1 ∙ shown c.self.inside c.in-Some.all c.args.self.now c.self.view_is (sym c.take.ensures.value ∙ c.in-Some.is)

pub returns-clause-found : goal.returns-clause-found
returns-clause-found c = told.found c.self.inside.log c.in-Some.all c.self.inside.held (numbers c.self.inside) (there c.self.inside c.in-Some.all c.self.invariant (sym c.take.ensures.value ∙ c.in-Some.is)) c.consumer_of-consumer.result c.args.block.now c.next_as-all.new.block c.args.self.now (shown c.self.inside c.in-Some.all c.args.self.now c.self.view_is (sym c.take.ensures.value ∙ c.in-Some.is)) c.args.reader c.requires.reader c.consumer_of-consumer.ensures.number c.consumer_of-consumer.ensures.place c.consumer_of-consumer.ensures.position c.next_as-all.result.0 c.next_as-all.result.1 c.next_as-all.ensures.found

pub returns-clause-none : goal.returns-clause-none
returns-clause-none c = told.none c.self.inside.log c.in-Some.all c.self.inside.held (numbers c.self.inside) (there c.self.inside c.in-Some.all c.self.invariant (sym c.take.ensures.value ∙ c.in-Some.is)) c.consumer_of-consumer.result c.args.block.now c.next_as-all.new.block c.args.self.now (shown c.self.inside c.in-Some.all c.args.self.now c.self.view_is (sym c.take.ensures.value ∙ c.in-Some.is)) c.args.reader c.requires.reader c.consumer_of-consumer.ensures.number c.consumer_of-consumer.ensures.place c.consumer_of-consumer.ensures.position c.next_as-all.result.0 c.next_as-all.result.1 c.next_as-all.ensures.none

pub consumer_of-consumer-requires : goal.consumer_of-consumer-requires
consumer_of-consumer-requires c = known c.self.inside.log c.in-Some.all c.self.inside.held (numbers c.self.inside) (there c.self.inside c.in-Some.all c.self.invariant (sym c.take.ensures.value ∙ c.in-Some.is)) c.args.self.now (shown c.self.inside c.in-Some.all c.args.self.now c.self.view_is (sym c.take.ensures.value ∙ c.in-Some.is)) c.args.reader c.requires.reader
