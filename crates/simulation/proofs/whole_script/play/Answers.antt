use Rattle.std.proofs.Common.{◌∙◌, rules, ap, FitsSigned, w32}
use Rattle.std.specs.Prelude.{ℤ}
use Rattle.std.proofs.lemmas.Int.{to_z-of_z}
use Rattle.simulation.proofs.whole_script.play.Goals as goal

pub log_lines-requires-clause-made : goal.log_lines-requires-clause-made
log_lines-requires-clause-made c =
    let log = c.args.script.now.log in
    let initial : FitsSigned w32 c.args.script.now.log.initial_term_id = search rules in
    c.in-Ok.ensures.made ∙ ap (λ (z : ℤ). record { term_length = log.term_length; mtu = log.mtu; initial_term_id = z }) (to_z-of_z w32 log.initial_term_id initial)
