use Rattle.std.proofs.Common.{◌||◌, sym, ap, ◌∙◌}
use Rattle.std.specs.List.{list_any}
use Rattle.script.specs.Rests.{lines_left}
use Rattle.script.specs.Reading.{is_log}
use Rattle.script.proofs.read.has_log.Goals as goal

pub loop-line-preserved : goal.loop-line-preserved
loop-line-preserved c =
    ap (λ t. t || list_any is_log (lines_left c.next.new.self)) c.if-is_log_line.ensures ∙ sym (ap (list_any is_log) c.in-Some.ensures.steps) ∙ c.loop-line.invariant

pub returns-then-is_log_line : goal.returns-then-is_log_line
returns-then-is_log_line c =
    ap (λ t. t || list_any is_log (lines_left c.next.new.self)) c.if-is_log_line.ensures ∙ sym (ap (list_any is_log) c.in-Some.ensures.steps) ∙ c.loop-line.invariant

pub returns : goal.returns
returns c = sym (ap (list_any is_log) c.in-None.ensures.steps.0) ∙ c.loop-line.invariant
