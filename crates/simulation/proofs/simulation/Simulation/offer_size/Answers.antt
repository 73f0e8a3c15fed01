use Rattle.std.proofs.Common.{◌≡◌, ◌∙◌, List, ℕ, subst}
use Rattle.std.specs.Prelude.{replicate}
use Rattle.std.proofs.lemmas.Result.{on_ok_weaker}
use Rattle.script.specs.Meaning as commands
use Rattle.simulation.specs.Reading.{MayBeOffered}
use Rattle.simulation.proofs.Simulations.{may_offer_size}
use Rattle.simulation.proofs.simulation.Simulation.offer_size.Goals as goal

pub returns : goal.returns
returns c =
    let by = c.args.publisher.number in
    let said : c.deref.result.now ≡ replicate c.args.size 97 = c.deref.ensures.value ∙ c.in_ok-message.ensures in
    on_ok_weaker c.offer_short.result (λ o. o (commands.OfferSize by c.args.size) (λ s t lines x. may_offer_size s t by c.args.size lines (subst (λ (m : List ℕ). MayBeOffered s by m lines t) said x))) c.offer_short.ensures
