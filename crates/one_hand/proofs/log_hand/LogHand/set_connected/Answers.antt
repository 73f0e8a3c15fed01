use Rattle.std.proofs.Common.{◌∙◌, ap, sym}
use Rattle.shared_log.specs.Keepers.{connected_word}
use Rattle.one_hand.specs.Stream.{Stream}
use Rattle.one_hand.proofs.Handing.{numbers, shown, there}
use Rattle.one_hand.proofs.Flags as flags
use Rattle.one_hand.proofs.log_hand.LogHand.set_connected.Goals as goal

pub set_connected_as-all-requires : goal.set_connected_as-all-requires
set_connected_as-all-requires c = record { may = flags.may_keep c.self.inside.log c.in-Some.all c.self.inside.held (numbers c.self.inside) (there c.self.inside c.in-Some.all c.self.invariant (sym c.take.ensures.value ∙ c.in-Some.is)) }

pub invariant_of-self : goal.invariant_of-self
invariant_of-self c = (flags.flagged c.self.inside.log c.in-Some.all c.self.inside.held (numbers c.self.inside) (there c.self.inside c.in-Some.all c.self.invariant (sym c.take.ensures.value ∙ c.in-Some.is)) c.set_connected_as-all.result.0 (connected_word c.args.connected c.self.inside.limit) c.set_connected_as-all.result.1 c.set_connected_as-all.ensures).0

pub returns : goal.returns
returns c = flags.connected c.self.inside.log c.in-Some.all c.self.inside.held (numbers c.self.inside) (there c.self.inside c.in-Some.all c.self.invariant (sym c.take.ensures.value ∙ c.in-Some.is)) c.set_connected_as-all.result.0 c.set_connected_as-all.result.1 c.args.connected c.set_connected_as-all.ensures ∙ ap (λ (x : Stream). record x { connected = c.args.connected }) (shown c.self.inside c.in-Some.all c.args.self.now c.self.view_is (sym c.take.ensures.value ∙ c.in-Some.is))
