use Rattle.std.proofs.Common.{◌∙◌, ◌||◌, ap₂, rules}
use Rattle.std.proofs.lemmas.Result.{IfOk-weaker}
use Rattle.command_line.proofs.flag.with_flag.Goals as goal

pub returns-clause-globals : goal.returns-clause-globals
returns-clause-globals c = IfOk-weaker c.arg.result _ _ (λ r h none. h.globals ∙ ap₂ (λ a b. a || b) none (search rules)) c.arg.ensures
