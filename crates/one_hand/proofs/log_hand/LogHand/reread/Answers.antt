use Rattle.std.proofs.Common.{◌∙◌, sym}
use Rattle.one_hand.proofs.Handing.{numbers, shown, there}
use Rattle.one_hand.proofs.Told as told
use Rattle.one_hand.proofs.Told.{known}
use Rattle.one_hand.proofs.log_hand.LogHand.reread.Goals as goal

pub reread_as-all-requires-clause-may : goal.reread_as-all-requires-clause-may
reread_as-all-requires-clause-may c = told.may c.self.inside.log c.in-Some.all c.self.inside.held (numbers c.self.inside) (there c.self.inside c.in-Some.all c.self.invariant (sym c.take.ensures.value ∙ c.in-Some.is)) c.consumer_of-consumer.result c.args.block.now c.args.block.now c.args.self.now (shown c.self.inside c.in-Some.all c.args.self.now c.self.view_is (sym c.take.ensures.value ∙ c.in-Some.is)) c.args.reader c.requires.reader c.consumer_of-consumer.ensures.number c.consumer_of-consumer.ensures.place c.consumer_of-consumer.ensures.position

pub reread_as-all-requires-clause-has : goal.reread_as-all-requires-clause-has
reread_as-all-requires-clause-has c = told.may_again c.self.inside.log c.in-Some.all c.self.inside.held (numbers c.self.inside) (there c.self.inside c.in-Some.all c.self.invariant (sym c.take.ensures.value ∙ c.in-Some.is)) c.consumer_of-consumer.result c.args.block.now c.args.block.now c.args.self.now (shown c.self.inside c.in-Some.all c.args.self.now c.self.view_is (sym c.take.ensures.value ∙ c.in-Some.is)) c.args.reader c.requires.reader c.consumer_of-consumer.ensures.number c.consumer_of-consumer.ensures.place c.consumer_of-consumer.ensures.position c.args.position c.requires.may

pub invariant_of-self : goal.invariant_of-self
invariant_of-self c = (told.reread_stays c.self.inside.log c.in-Some.all c.self.inside.held (numbers c.self.inside) (there c.self.inside c.in-Some.all c.self.invariant (sym c.take.ensures.value ∙ c.in-Some.is)) c.consumer_of-consumer.result c.args.block.now c.reread_as-all.new.block c.reread_as-all.result.0 c.args.position c.reread_as-all.result.1 c.reread_as-all.ensures.again).0

pub returns-clause-same : goal.returns-clause-same
returns-clause-same c = (told.reread_stays c.self.inside.log c.in-Some.all c.self.inside.held (numbers c.self.inside) (there c.self.inside c.in-Some.all c.self.invariant (sym c.take.ensures.value ∙ c.in-Some.is)) c.consumer_of-consumer.result c.args.block.now c.reread_as-all.new.block c.reread_as-all.result.0 c.args.position c.reread_as-all.result.1 c.reread_as-all.ensures.again).1 ∙ shown c.self.inside c.in-Some.all c.args.self.now c.self.view_is (sym c.take.ensures.value ∙ c.in-Some.is)

pub returns-clause-found : goal.returns-clause-found
returns-clause-found c = told.again c.self.inside.log c.in-Some.all c.self.inside.held (numbers c.self.inside) (there c.self.inside c.in-Some.all c.self.invariant (sym c.take.ensures.value ∙ c.in-Some.is)) c.consumer_of-consumer.result c.args.block.now c.reread_as-all.new.block c.args.self.now (shown c.self.inside c.in-Some.all c.args.self.now c.self.view_is (sym c.take.ensures.value ∙ c.in-Some.is)) c.args.reader c.requires.reader c.consumer_of-consumer.ensures.number c.consumer_of-consumer.ensures.place c.consumer_of-consumer.ensures.position c.reread_as-all.result.0 c.args.position c.reread_as-all.result.1 c.requires.may c.reread_as-all.ensures.again

pub consumer_of-consumer-requires : goal.consumer_of-consumer-requires
consumer_of-consumer-requires c = known c.self.inside.log c.in-Some.all c.self.inside.held (numbers c.self.inside) (there c.self.inside c.in-Some.all c.self.invariant (sym c.take.ensures.value ∙ c.in-Some.is)) c.args.self.now (shown c.self.inside c.in-Some.all c.args.self.now c.self.view_is (sym c.take.ensures.value ∙ c.in-Some.is)) c.args.reader c.requires.reader
