use Rattle.std.proofs.Common.{inr, refl, rules}
use Rattle.std.proofs.lemmas.Int.{to_z-of_z}
use Rattle.std.specs.Int.{w32}
use Rattle.std.specs.Prelude.{FitsSigned}
use Rattle.subscriber.proofs.images.follower.after_setup.Goals as goal

pub returns-in-None : goal.returns-in-None
returns-in-None c =
    let session : FitsSigned w32 c.args.session = search rules in
    let stream : FitsSigned w32 c.args.stream = search rules in
    let none = simp to_z-of_z at c.in-None.ensures.none in
    inr (none, refl)
