use Rattle.std.proofs.Common.{subst, sym, ◌∙◌}
use Rattle.publication.specs.declared.refusal.Refusal.{Refusal}
use Rattle.shared_log.specs.Steps.Handles.{IsOf, LogValue, PublisherValue}
use Rattle.claims.specs.Claimings.{DeniesMessage, GoesOn}
use Rattle.claims.proofs.Boxed.{publisher_is}
use Rattle.claims.proofs.Halves.{refused_looking_at, refused_turning}
use Rattle.claims.proofs.armed.arm.Goals as goal

pub returns-in-UsedUp-clause-denied : goal.returns-in-UsedUp-clause-denied
returns-in-UsedUp-clause-denied c =
    let l = c.args.log.now in let x = c.look_at.new.pass in let q = c.turn_from-refusal.new.publisher in let call = c.in-UsedUp.ensures.called in
    subst (λ (z : PublisherValue × Refusal × PublisherValue). DeniesMessage l z.0 c.args.length z.1 z.2) (λ j. (publisher_is c.as_mut.ensures.value c.claimant.view_is j, sym c.new.ensures.refusal j, sym c.new.ensures.claimant j))
    (refused_turning l c.as_mut.result.now.publisher x q c.args.length c.in-UsedUp.count c.turn_from-refusal.result call.took c.in-UsedUp.ensures.looked (subst (λ (m : LogValue). GoesOn m x 0 q) (call.moved.same ∙ c.new-words.ensures) c.turn_from-refusal.ensures.goes_on) c.turn_from-refusal.ensures.turns c.turn_from-refusal.ensures.why)

pub returns-in-Refused-clause-denied : goal.returns-in-Refused-clause-denied
returns-in-Refused-clause-denied c =
    let l = c.args.log.now in let q = c.look_at.new.pass in let call = c.in-Refused.ensures.called in
    subst (λ (z : PublisherValue × Refusal × PublisherValue). DeniesMessage l z.0 c.args.length z.1 z.2) (λ j. (publisher_is c.as_mut.ensures.value c.claimant.view_is j, sym c.new-in-Refused.ensures.refusal j, sym c.new-in-Refused.ensures.claimant j))
    (refused_looking_at l c.as_mut.result.now.publisher q c.args.length c.in-Refused.refusal (subst (λ (m : LogValue). IsOf m q) (call.moved.same ∙ c.new-words.ensures) call.moved.still) call.few call.took c.in-Refused.ensures.looked)
