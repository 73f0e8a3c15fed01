use Rattle.simulation.proofs.ScriptRuns.{all_played, next_played, none_played, stands_on}
use Rattle.simulation.proofs.whole_script.answer_all.Goals as goal

pub loop-command-init : goal.loop-command-init
loop-command-init c = none_played _ _

pub play-requires : goal.play-requires
play-requires c = stands_on _ _ _ _ _ c.requires c.loop-command.invariant

pub loop-command-preserved : goal.loop-command-preserved
loop-command-preserved c = next_played _ _ _ c.args.commands.now c.loop-command.command-index c.command-item.result _ _ _ c.loop-command-test.true c.command-item.is c.loop-command.invariant c.in_ok-play.ensures

pub returns : goal.returns
returns c = all_played _ _ c.args.commands.now c.loop-command.command-index _ _ (c.loop-command-test.false) c.loop-command.invariant
