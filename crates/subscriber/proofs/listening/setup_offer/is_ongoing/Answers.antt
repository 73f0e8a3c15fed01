use Rattle.std.proofs.Common.{refl, rules}
use Rattle.std.proofs.lemmas.Int.{to_z-of_z}
use Rattle.std.specs.Int.{w32}
use Rattle.std.specs.Prelude.{FitsSigned}
use Rattle.subscriber.proofs.listening.setup_offer.is_ongoing.Goals as goal

pub returns-in-None : goal.returns-in-None
returns-in-None c =
    let session : FitsSigned w32 c.args.setup.now.session = search rules in
    let stream : FitsSigned w32 c.args.setup.now.stream = search rules in
    let none = simp to_z-of_z at c.in-None.ensures.none in
    (λ _. none, λ _. refl)
