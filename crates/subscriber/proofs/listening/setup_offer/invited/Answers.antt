use Rattle.std.proofs.Common.{rules}
use Rattle.std.proofs.lemmas.Int.{to_z-of_z}
use Rattle.std.specs.Int.{w32, w64}
use Rattle.std.specs.Prelude.{FitsSigned}
use Rattle.subscriber.proofs.listening.setup_offer.invited.Goals as goal

pub returns-clause-shown : goal.returns-clause-shown
returns-clause-shown c =
    let session : FitsSigned w32 c.args.setup.now.session = search rules in
    let stream : FitsSigned w32 c.args.setup.now.stream = search rules in
    let id : FitsSigned w64 c.id_of.result = search rules in
    let begun = simp to_z-of_z at (c.new.ensures.shown 2097152) in
    rw (c.window_in.ensures, c.id_of.ensures) at begun
