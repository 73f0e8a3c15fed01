use Rattle.std.proofs.Common.{arith, inl, inr}
use Rattle.commands.proofs.Ended.{none_held, none_short}
use Rattle.commands.proofs.LineStatuses.{refused_line, taken, untaken}
use Rattle.commands.proofs.publish_command.publish_command.Goals as goal

pub returns-in-Ok-clause-status : goal.returns-in-Ok-clause-status
returns-in-Ok-clause-status g c = taken _ c.publish_told.result c.in-Ok.ensures.passed c.publish_told.ensures.most

pub returns-in-Ok-clause-refused : goal.returns-in-Ok-clause-refused
returns-in-Ok-clause-refused g c = λ two. inr (c.in-Ok.options, c.in-Ok.ensures.told, c.publish_told.ensures.refused two)

pub returns-in-Err-clause-status : goal.returns-in-Err-clause-status
returns-in-Err-clause-status g c = untaken _ c.in-Err.fault c.line_status.result c.in-Err.ensures.fault c.line_status.ensures

pub returns-in-Err-clause-refused : goal.returns-in-Err-clause-refused
returns-in-Err-clause-refused g c = λ two. inl (refused_line _ c.in-Err.fault c.line_status.result c.in-Err.ensures.fault c.line_status.ensures two)

pub returns-in-Ok-clause-done : goal.returns-in-Ok-clause-done
returns-in-Ok-clause-done g c = λ none is. (c.in-Ok.options, c.in-Ok.ensures.told, c.publish_told.ensures.whole is)

pub returns-in-Ok-clause-short : goal.returns-in-Ok-clause-short
returns-in-Ok-clause-short g c = λ three. (c.in-Ok.options, c.in-Ok.ensures.told, c.publish_told.ensures.planned (λ two. omega (arith, three, two)))

pub returns-in-Err-clause-done : goal.returns-in-Err-clause-done
returns-in-Err-clause-done g c = λ none is. absurd (none_held _ c.in-Err.fault c.line_status.result c.in-Err.ensures.fault c.line_status.ensures none is)

pub returns-in-Err-clause-short : goal.returns-in-Err-clause-short
returns-in-Err-clause-short g c = λ three. absurd (none_short c.in-Err.fault c.line_status.result c.line_status.ensures three)
