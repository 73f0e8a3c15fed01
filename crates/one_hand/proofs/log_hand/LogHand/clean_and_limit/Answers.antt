use Rattle.std.proofs.Common.{◌∙◌, ap, sym}
use Rattle.one_hand.specs.Stream.{cleaned_and_limited, raised}
use Rattle.one_hand.proofs.Handing.{numbers, shown, there}
use Rattle.one_hand.proofs.Flags as flags
use Rattle.one_hand.proofs.Limited as limited
use Rattle.one_hand.proofs.log_hand.LogHand.clean_and_limit.Goals as goal

pub clean_as-all-requires : goal.clean_as-all-requires
clean_as-all-requires c = record { may = flags.may_keep c.self.inside.log c.in-Some.all c.self.inside.held (numbers c.self.inside) (there c.self.inside c.in-Some.all c.self.invariant (sym c.take.ensures.value ∙ c.in-Some.is)) }

pub invariant_of-self : goal.invariant_of-self
invariant_of-self c = limited.stands c.self.inside.log c.in-Some.all c.self.inside.held (numbers c.self.inside) (there c.self.inside c.in-Some.all c.self.invariant (sym c.take.ensures.value ∙ c.in-Some.is)) c.clean_as-all.result.0 c.clean_as-all.result.1 c.clean_as-all.result.2 c.clean_as-all.result.3 c.clean_as-all.ensures

pub returns-clause-limit : goal.returns-clause-limit
returns-clause-limit c = limited.limit_is c.self.inside.log c.in-Some.all c.self.inside.held (numbers c.self.inside) (there c.self.inside c.in-Some.all c.self.invariant (sym c.take.ensures.value ∙ c.in-Some.is)) c.clean_as-all.result.0 c.clean_as-all.result.1 c.clean_as-all.result.2 c.clean_as-all.result.3 c.clean_as-all.ensures ∙ ap raised (shown c.self.inside c.in-Some.all c.args.self.now c.self.view_is (sym c.take.ensures.value ∙ c.in-Some.is))

pub returns-clause-after : goal.returns-clause-after
returns-clause-after c = limited.cleans c.self.inside.log c.in-Some.all c.self.inside.held (numbers c.self.inside) (there c.self.inside c.in-Some.all c.self.invariant (sym c.take.ensures.value ∙ c.in-Some.is)) c.clean_as-all.result.0 c.clean_as-all.result.1 c.clean_as-all.result.2 c.clean_as-all.result.3 c.clean_as-all.ensures ∙ ap cleaned_and_limited (shown c.self.inside c.in-Some.all c.args.self.now c.self.view_is (sym c.take.ensures.value ∙ c.in-Some.is))
