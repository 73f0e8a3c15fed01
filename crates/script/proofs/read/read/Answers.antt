use Rattle.std.proofs.Common.{◌≡◌, sym, ap, ◌∙◌, arith, max}
use Rattle.std.specs.Prelude.{length, Err}
use Rattle.script.specs.Pieces.{lines}
use Rattle.script.proofs.Whole.{no_log, with_log}
use Rattle.script.proofs.read.read.Goals as goal

pub returns-then-has_log-clause-given : goal.returns-then-has_log-clause-given
returns-then-has_log-clause-given c = rw (with_log c.args.bytes.now (sym c.if-has_log.ensures)) c.read_lines.ensures

pub returns-else-has_log-clause-given : goal.returns-else-has_log-clause-given
returns-else-has_log-clause-given c =
    let last : max 1 (length (lines c.args.bytes.now)) ≡ c.max.result = omega (arith, c.max.ensures, c.line_count.ensures) in
    no_log c.args.bytes.now (sym c.if-has_log.ensures) ∙ ap Err last
