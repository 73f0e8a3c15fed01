use Rattle.std.proofs.Common.{◌≡◌, true, None, Ok, length, sym, ap, ◌∙◌, arith}
use Rattle.script.specs.Meaning.{opened, contents_of}
use Rattle.script.specs.Pieces.{lines}
use Rattle.script.specs.Reading.{are_none, finished, script_from, with_front}
use Rattle.script.proofs.Whole.{lines_few, at_end}
use Rattle.script.proofs.read.read_lines.Goals as goal

pub overflow_add-number : goal.overflow_add-number
overflow_add-number c = omega (arith, lines_few c.args.bytes.now, c.loop-line.invariant.count, ap length c.in-Some.ensures.steps)

pub returns-in-Some-log : goal.returns-in-Some-log
returns-in-Some-log c =
    let os = contents_of c.loop-line.commands.items in
    let read : script_from 1 true None (lines c.args.bytes.now) ≡ Ok (opened c.loop-line.log, os) =
    sym c.loop-line.invariant.says ∙ ap (λ rest. with_front os (script_from c.loop-line.number (are_none os) (opened c.loop-line.log) rest)) c.in-None.ensures.steps.0 ∙ at_end c.loop-line.number (are_none os) (opened c.loop-line.log) os in
    ap finished read ∙ ap (λ log. finished (Ok (opened log, os))) c.in-Some-log.is

pub returns-in-None-log : goal.returns-in-None-log
returns-in-None-log c =
    let os = contents_of c.loop-line.commands.items in
    let read : script_from 1 true None (lines c.args.bytes.now) ≡ Ok (opened c.loop-line.log, os) =
    sym c.loop-line.invariant.says ∙ ap (λ rest. with_front os (script_from c.loop-line.number (are_none os) (opened c.loop-line.log) rest)) c.in-None.ensures.steps.0 ∙ at_end c.loop-line.number (are_none os) (opened c.loop-line.log) os in
    ap finished read ∙ ap (λ log. finished (Ok (opened log, os))) c.in-None-log.is
