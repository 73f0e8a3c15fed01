use Rattle.std.proofs.Common.{◌∙◌, true, ap, sym}
use Rattle.shared_log.specs.Keepers.{closed_word}
use Rattle.one_hand.specs.Stream.{Stream}
use Rattle.one_hand.proofs.Handing.{numbers, shown, there}
use Rattle.one_hand.proofs.Flags as flags
use Rattle.one_hand.proofs.log_hand.LogHand.set_closed.Goals as goal

pub set_closed_as-all-requires : goal.set_closed_as-all-requires
set_closed_as-all-requires c = record { may = flags.may_keep c.self.inside.log c.in-Some.all c.self.inside.held (numbers c.self.inside) (there c.self.inside c.in-Some.all c.self.invariant (sym c.take.ensures.value ∙ c.in-Some.is)) }

pub invariant_of-self : goal.invariant_of-self
invariant_of-self c = (flags.flagged c.self.inside.log c.in-Some.all c.self.inside.held (numbers c.self.inside) (there c.self.inside c.in-Some.all c.self.invariant (sym c.take.ensures.value ∙ c.in-Some.is)) c.set_closed_as-all.result.0 (closed_word c.self.inside.limit) c.set_closed_as-all.result.1 c.set_closed_as-all.ensures).0

pub returns : goal.returns
returns c = flags.closed c.self.inside.log c.in-Some.all c.self.inside.held (numbers c.self.inside) (there c.self.inside c.in-Some.all c.self.invariant (sym c.take.ensures.value ∙ c.in-Some.is)) c.set_closed_as-all.result.0 c.set_closed_as-all.result.1 c.set_closed_as-all.ensures ∙ ap (λ (x : Stream). record x { closed = true }) (shown c.self.inside c.in-Some.all c.args.self.now c.self.view_is (sym c.take.ensures.value ∙ c.in-Some.is))
