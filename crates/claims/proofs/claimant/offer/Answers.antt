use Rattle.std.proofs.Common.{length, subst, ◌∙◌}
use Rattle.std.specs.Prelude.{IfErr}
use Rattle.shared_log.specs.Steps.Handles.{IsOf, LogValue, PublisherValue}
use Rattle.claims.specs.Claimings.{DeniesMessage}
use Rattle.claims.proofs.Boxed.{publisher_is}
use Rattle.claims.proofs.Halves.{offer_refused}
use Rattle.claims.proofs.claimant.offer.Goals as goal

pub returns-clause-refused : goal.returns-clause-refused
returns-clause-refused c =
    let call = c.offer.ensures.called in let q = c.offer.new.pass in let l = c.args.log.now in
    subst (λ (p : PublisherValue). IfErr c.offer.result (λ why. DeniesMessage l p (length c.args.message.now) why q)) (publisher_is c.as_mut.ensures.value c.claimant.view_is)
    (offer_refused l c.as_mut.result.now.publisher q c.args.message.now c.offer.result (subst (λ (x : LogValue). IsOf x q) (call.moved.same ∙ c.new.ensures) call.moved.still) call.few call.took c.offer.ensures.refused)
