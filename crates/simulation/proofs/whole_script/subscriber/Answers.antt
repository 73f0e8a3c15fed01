use Rattle.std.proofs.Common.{◌∙◌, ap, sym, rules, FitsSigned, w32, w64}
use Rattle.std.specs.Prelude.{ℕ, ◌/◌}
use Rattle.std.proofs.lemmas.Int.{to_z-of_z}
use Rattle.simulation.proofs.Listened.{shows_listening}
use Rattle.simulation.proofs.whole_script.subscriber.Goals as goal

pub returns : goal.returns
returns c =
    let session : FitsSigned w32 c.args.log.now.session = search rules in
    let stream : FitsSigned w32 c.args.log.now.stream = search rules in
    let number : FitsSigned w64 c.from.result = search rules in
    c.new.ensures.shown _
    (shows_listening _ _ _ _ _ _ _ _ _ _
    (to_z-of_z w32 c.args.log.now.session session)
    (to_z-of_z w32 c.args.log.now.stream stream)
    (ap (λ (w : ℕ). w / 2) c.term_length-window.ensures.value)
    (to_z-of_z w64 c.from.result number ∙ c.from.ensures)
    (c.new-core.ensures.shown _))
    (sym c.max_message.ensures.value)
