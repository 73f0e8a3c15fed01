use Rattle.std.proofs.Common.{rules, subst, ◌++◌, ◌∷◌, []}
use Rattle.std.specs.Io.KnownBytes.{Appends}
use Rattle.std.proofs.KnownBytes.{Appends-nil, Appends-trans}
use Rattle.std.proofs.lemmas.List.{take_all}
use Rattle.simulation.specs.LineTexts.{line_text, text_of_lines}
use Rattle.simulation.specs.Lines.{line_content, line_contents}
use Rattle.commands.proofs.WrittenLines.{text_more}
use Rattle.commands.proofs.script_command.write_lines.Goals as goal

pub loop-line-init : goal.loop-line-init
loop-line-init g c = Appends-nil (g.W.Write.contents c.args.output.now)

pub loop-line-preserved : goal.loop-line-preserved
loop-line-preserved g c =
    let printed : Appends (g.W.Write.contents c.loop-line.output) (g.W.Write.contents c.writeln.new.self) (line_text (line_content c.line-item.result) ++ 10 ∷ []) = search rules in
    let all = Appends-trans _ _ _ _ _ c.loop-line.invariant printed in
    subst (Appends (g.W.Write.contents c.args.output.now) (g.W.Write.contents c.writeln.new.self)) (text_more c.args.lines.now c.loop-line.line-index c.line-item.result c.loop-line-test.true c.line-item.is) all

pub returns-clause-done : goal.returns-clause-done
returns-clause-done g c =
    subst (λ ls. Appends (g.W.Write.contents c.args.output.now) (g.W.Write.contents c.loop-line.output) (text_of_lines (line_contents ls))) (take_all c.loop-line.line-index c.args.lines.now c.loop-line-test.false) c.loop-line.invariant
