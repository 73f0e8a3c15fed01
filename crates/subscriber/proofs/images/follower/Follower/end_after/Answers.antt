use Rattle.std.proofs.Common.{Some, rules}
use Rattle.std.proofs.lemmas.Int.{to_z-of_z}
use Rattle.std.specs.Int.{w32}
use Rattle.std.specs.Prelude.{FitsSigned}
use Rattle.frames.specs.Frames.{setup_of}
use Rattle.subscriber.proofs.images.follower.Follower.end_after.Goals as goal

pub returns-in-Some : goal.returns-in-Some
returns-in-Some c =
    let session : FitsSigned w32 c.args.self.now.opening.session = search rules in
    let stream : FitsSigned w32 c.args.self.now.stream = search rules in
    let notes = simp to_z-of_z at c.after_setup.ensures in
    (Some (setup_of c.in-Some.setup), c.in-Some.ensures, notes)
