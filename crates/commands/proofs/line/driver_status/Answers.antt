use Rattle.std.proofs.Common.{◌∙◌, subst, sym}
use Rattle.commands.proofs.Ended.{done_whole}
use Rattle.commands.specs.Done.{IsDriven}
use Rattle.commands.proofs.line.driver_status.Goals as goal

pub returns-in-Sim-clause-done : goal.returns-in-Sim-clause-done
returns-in-Sim-clause-done g c = λ is. subst (λ o. IsDriven o (g.R.Read.remaining c.args.input.now) (g.W.Write.contents c.args.output.now) (g.W.Write.contents c.sim.new.output)) (sym c.in-Sim.is) (done_whole c.sim.result _ c.sim.ensures.done (sym c.done.ensures.value ∙ is))

pub returns-in-Decode-clause-done : goal.returns-in-Decode-clause-done
returns-in-Decode-clause-done g c = λ is. subst (λ o. IsDriven o (g.R.Read.remaining c.args.input.now) (g.W.Write.contents c.args.output.now) (g.W.Write.contents c.decode.new.output)) (sym c.in-Decode.is) (done_whole c.decode.result _ c.decode.ensures.done (sym c.done-in-Decode.ensures.value ∙ is))
