use Rattle.std.proofs.Common.{◌∙◌, sym}
use Rattle.commands.specs.Running.{IsLeftBy}
use Rattle.commands.proofs.Ran.{ran_short, ran_whole}
use Rattle.commands.proofs.line.run_status.Goals as goal

pub returns-clause-whole : goal.returns-clause-whole
returns-clause-whole g c =
    let left = IsLeftBy c.args.options.now (g.W.Write.contents c.args.output.now) (g.W.Write.contents c.run_driver-ended.new.output) in
    λ is. ran_whole c.run_driver-ended.result left c.run_driver-ended.ensures.done (sym c.ran.ensures.value ∙ is)

pub returns-clause-short : goal.returns-clause-short
returns-clause-short g c =
    let left = IsLeftBy c.args.options.now (g.W.Write.contents c.args.output.now) (g.W.Write.contents c.run_driver-ended.new.output) in
    λ is. ran_short c.run_driver-ended.result left c.run_driver-ended.ensures.done (sym c.ran.ensures.value ∙ is)
