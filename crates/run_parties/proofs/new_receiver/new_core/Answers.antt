use Rattle.std.proofs.Common.{◌≡◌, ◌/◌, pos, rules, subst}
use Rattle.std.proofs.lemmas.Int.{to_z-of_z}
use Rattle.std.specs.Int.{w64}
use Rattle.std.specs.Prelude.{FitsSigned}
use Rattle.theory.specs.Position.{max_message}
use Rattle.receiver.specs.Receiving.{listening}
use Rattle.receiver.specs.Representing.{Represents}
use Rattle.run_parties.specs.Receivers.{new_receiver}
use Rattle.run_parties.proofs.new_receiver.new_core.Goals as goal

pub returns : goal.returns
returns c =
    let window = c.term_length-window in
    let greatest = max_message c.args.geometry.now in
    let id : FitsSigned w64 c.args.id = search rules in
    let r = listening (pos 1) (pos 1001) (window.result / 2) c.args.id 1 greatest in
    let same : r ≡ new_receiver c.args.geometry.now c.args.id = λ i. listening (pos 1) (pos 1001) (window.ensures.value i / 2) c.args.id 1 greatest in
    subst (Represents _) same (simp to_z-of_z at (c.new.ensures.shown greatest))
