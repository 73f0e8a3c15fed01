use Rattle.std.proofs.Common.{◌≡◌, ◌∙◌, ◌++◌, ◌∷◌, ◌<◌, ◌≤◌, ◌+◌, [], suc, length, drop, take, rules, arith, ap, subst}
use Rattle.std.specs.Io.KnownBytes.{Appends}
use Rattle.std.proofs.KnownBytes.{Appends-nil, Appends-trans}
use Rattle.frames.specs.Frames.{wire}
use Rattle.theory.specs.Wire.{spelling}
use Rattle.std.specs.List.{flat_map}
use Rattle.commands.specs.FrameLines.{frame_line, frame_lines}
use Rattle.commands.proofs.PrintedLines.{all_lines, lines_more}
use Rattle.frames.proofs.FrameSteps.{frame_at, frame_first, front_spells, next_first, slice_to_end}
use Rattle.commands.proofs.decoding.datagram.print_frames.Goals as goal

pub loop-turn-init : goal.loop-turn-init
loop-turn-init g c = λ frames spells counted. (spells.2, Appends-nil (g.W.Write.contents c.args.output.now))

pub loop-turn-preserved : goal.loop-turn-preserved
loop-turn-preserved g c = λ frames spells counted.
    let i = c.loop-turn._turn in
    let before = c.loop-turn.invariant frames spells counted in
    let below : i < length frames = omega (arith, counted, c.loop-turn-test.true) in
    let at = frame_at frames i spells.1 below in
    let parts = frame_first frames c.loop-turn.rest.now i at before.0 in
    let read = c.in_ok-frame.ensures.only at.frame (length (spelling at.frame)) (front_spells at.frame c.loop-turn.rest.now (flat_map spelling (drop (suc i) frames)) at.is parts) in
    let printed : Appends (g.W.Write.contents c.loop-turn.output) (g.W.Write.contents c.writeln.new.self) (frame_line (wire c.in_ok-frame.frame) ++ 10 ∷ []) = search rules in
    let all = Appends-trans _ _ _ _ _ before.1 printed in
    let left = slice_to_end c.loop-turn.rest.now c.in_ok-frame.size ∙ next_first at.frame c.loop-turn.rest.now (flat_map spelling (drop (suc i) frames)) c.in_ok-frame.size parts read.1 in
    let next : suc i ≡ i + 1 = omega arith in
    let text = ap (λ w. frame_lines (take i frames) ++ (frame_line w ++ 10 ∷ [])) read.0 ∙ lines_more frames i at ∙ ap (λ k. frame_lines (take k frames)) next in
    (left ∙ ap (λ k. flat_map spelling (drop k frames)) next, subst (Appends (g.W.Write.contents c.args.output.now) (g.W.Write.contents c.writeln.new.self)) text all)

pub returns-in_err-frame-clause-fault : goal.returns-in_err-frame-clause-fault
returns-in_err-frame-clause-fault g c = λ frames spells counted.
    let i = c.loop-turn._turn in
    let before = c.loop-turn.invariant frames spells counted in
    let below : i < length frames = omega (arith, counted, c.loop-turn-test.true) in
    let at = frame_at frames i spells.1 below in
    let parts = frame_first frames c.loop-turn.rest.now i at before.0 in
    absurd (c.in_err-frame.ensures.only at.frame (length (spelling at.frame)) (front_spells at.frame c.loop-turn.rest.now (flat_map spelling (drop (suc i) frames)) at.is parts))

pub returns-clause-done : goal.returns-clause-done
returns-clause-done g c = λ frames spells counted.
    let end = c.loop-turn.invariant frames spells counted in
    let done : length frames ≤ c.loop-turn._turn = omega (arith, counted, c.loop-turn-test.false) in
    subst (Appends (g.W.Write.contents c.args.output.now) (g.W.Write.contents c.loop-turn.output)) (all_lines frames c.loop-turn._turn done) end.1
