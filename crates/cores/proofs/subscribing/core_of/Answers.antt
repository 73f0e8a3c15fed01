use Rattle.std.proofs.Common.{ℤ, rules, subst, FitsSigned, w32, w64}
use Rattle.std.proofs.lemmas.Int.{to_z-of_z}
use Rattle.receiver.specs.Receiving.{listening}
use Rattle.receiver.specs.Representing.{Represents}
use Rattle.cores.proofs.subscribing.core_of.Goals as goal

pub returns-clause-shown : goal.returns-clause-shown
returns-clause-shown c greatest =
    let config = c.args.config in
    let session : FitsSigned w32 config.session = search rules in
    let stream : FitsSigned w32 config.stream = search rules in
    let receiver : FitsSigned w64 config.receiver = search rules in
    subst (λ (x : ℤ × ℤ × ℤ). Represents c.new.result (listening x.0 x.1 config.window x.2 1 greatest)) (λ j. (to_z-of_z w32 config.session session j, to_z-of_z w32 config.stream stream j, to_z-of_z w64 config.receiver receiver j)) (c.new.ensures.shown greatest)
