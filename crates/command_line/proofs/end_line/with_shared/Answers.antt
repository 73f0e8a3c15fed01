use Rattle.std.proofs.Common.{◌∙◌, ap, codes}
use Rattle.std.proofs.lemmas.Result.{IfOk-weaker}
use Rattle.command_line.specs.Flags.{plus_flag}
use Rattle.command_line.proofs.end_line.with_shared.Goals as goal

pub returns : goal.returns
returns c =
    let blocks = c.in_ok-command-2.ensures.shape ∙ ap (plus_flag (codes "blocks")) c.in_ok-command.ensures.shape in
    IfOk-weaker c.with_flag-2.result _ _ (λ r h. h ∙ ap (plus_flag (codes "counters")) blocks) c.with_flag-2.ensures.shape
