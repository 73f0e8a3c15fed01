use Rattle.std.proofs.Common.{false, get_or, rules, subst}
use Rattle.std.specs.Prelude.{flat_map}
use Rattle.std.specs.Io.KnownBytes.{Appends}
use Rattle.std.proofs.KnownBytes.{Appends-nil, Appends-trans}
use Rattle.std.proofs.lemmas.List.{take_all}
use Rattle.run.specs.declared.outcome.Polled.{Polled}
use Rattle.commands.specs.Running.{polled_text}
use Rattle.commands.proofs.WrittenLines.{polled_more}
use Rattle.commands.proofs.run_command.write_all_polled.Goals as goal

none : Polled
none = record { polled = 0; kept = false }

pub loop-tally-init : goal.loop-tally-init
loop-tally-init g c = Appends-nil (g.W.Write.contents c.args.output.now)

pub loop-tally-preserved : goal.loop-tally-preserved
unfolding none
loop-tally-preserved g c =
    let i = c.loop-tally.tally-index in
    let ps = c.args.tallies.now in
    let printed : Appends (g.W.Write.contents c.loop-tally.output) (g.W.Write.contents c.write_polled.new.output) (polled_text c.args.wanted (get_or ps i none)) = search rules in
    let all = Appends-trans _ _ _ _ _ c.loop-tally.invariant printed in
    subst (Appends (g.W.Write.contents c.args.output.now) (g.W.Write.contents c.write_polled.new.output)) (polled_more c.args.wanted ps i none c.loop-tally-test.true) all

pub returns-clause-done : goal.returns-clause-done
returns-clause-done g c =
    subst (λ ts. Appends (g.W.Write.contents c.args.output.now) (g.W.Write.contents c.loop-tally.output) (flat_map (polled_text c.args.wanted) ts)) (take_all c.loop-tally.tally-index c.args.tallies.now c.loop-tally-test.false) c.loop-tally.invariant
