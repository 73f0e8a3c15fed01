use Rattle.std.proofs.Common.{◌≡◌, ◌∙◌, ◌||◌, ap₂, codes, false, rules}
use Rattle.std.proofs.lemmas.Result.{IfOk-weaker}
use Rattle.clap.specs.declared.builder.command.Command.TheViews.{out-Command}
use Rattle.clap.specs.Words.{app_of, new_app, rule_of, with_rule}
use Rattle.command_line.specs.CommandLines.{hex_rule}
use Rattle.command_line.proofs.driver_line.decode_command.Goals as goal

pub returns-clause-shape : goal.returns-clause-shape
returns-clause-shape c =
    let hex_is : rule_of c.required-hex.result ≡ hex_rule = search rules in
    let new_is : app_of c.after_help.result ≡ new_app (codes "decode") = search rules in
    IfOk-weaker c.arg.result _ _ (λ r h. h.shape (search rules) ∙ ap₂ with_rule new_is hex_is) c.arg.ensures

pub returns-clause-globals : goal.returns-clause-globals
returns-clause-globals c =
    let none : (out-Command c.after_help.result).has_globals ≡ false = search rules in
    let plain : c.required-hex.result.global ≡ false = search rules in
    IfOk-weaker c.arg.result _ _ (λ r h. h.globals ∙ ap₂ (λ a b. a || b) none plain) c.arg.ensures
