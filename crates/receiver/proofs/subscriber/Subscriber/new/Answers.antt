use Rattle.std.proofs.Common.{rules, ◌∙◌, ap, sym}
use Rattle.assembler.specs.Assembling.{Assembling}
use Rattle.receiver.proofs.Polled.{subscribes}
use Rattle.receiver.proofs.subscriber.Subscriber.new.Goals as goal

pub returns-clause-shown : goal.returns-clause-shown
returns-clause-shown c = λ r s e.
    let fresh = c.new-2.ensures ∙ c.new.ensures in
    subscribes _ r c.requires.image c.requires.consumers (ap (λ (x : Assembling). x.begun) fresh) (ap (λ (x : Assembling). x.greatest) fresh ∙ sym e) s

pub invariant_of-result : goal.invariant_of-result
invariant_of-result c = search rules
