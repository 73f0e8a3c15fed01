use Rattle.std.proofs.Common.{⊎_elim, arith, inl, inr}
use Rattle.subscriber.specs.declared.ending.Ending.TheVariants.{Lost, Short}
use Rattle.commands.specs.Done.{IsSubscribedTold}
use Rattle.commands.proofs.Ended.{none_held, none_short, told_short, told_whole}
use Rattle.commands.proofs.LineStatuses.{refused_line, taken, untaken}
use Rattle.commands.proofs.subscribe_command.subscribe_command.Goals as goal

pub returns-in-Ok-clause-status : goal.returns-in-Ok-clause-status
returns-in-Ok-clause-status g c = taken _ c.subscribe_told.result c.in-Ok.ensures.passed (omega (arith, c.subscribe_told.ensures.most))

pub returns-in-Ok-clause-refused : goal.returns-in-Ok-clause-refused
returns-in-Ok-clause-refused g c = λ two. inr (c.in-Ok.options, c.in-Ok.ensures.told, c.subscribe_told.ensures.refused two)

pub returns-in-Err-clause-status : goal.returns-in-Err-clause-status
returns-in-Err-clause-status g c = untaken _ c.in-Err.fault c.line_status.result c.in-Err.ensures.fault c.line_status.ensures

pub returns-in-Err-clause-refused : goal.returns-in-Err-clause-refused
returns-in-Err-clause-refused g c = λ two. inl (refused_line _ c.in-Err.fault c.line_status.result c.in-Err.ensures.fault c.line_status.ensures two)

pub returns-in-Ok-clause-done : goal.returns-in-Ok-clause-done
returns-in-Ok-clause-done g c = λ none is. (
  c.in-Ok.options,
  c.in-Ok.ensures.told,
  told_whole (IsSubscribedTold c.in-Ok.options _ _) c.subscribe_told.result is (c.subscribe_told.ensures.ended (λ one. omega (arith, one, is)) (λ two. omega (arith, two, is))),
)

pub returns-in-Ok-clause-short : goal.returns-in-Ok-clause-short
returns-in-Ok-clause-short g c = λ is.
    ⊎_elim
    (λ (short : IsSubscribedTold c.in-Ok.options _ _ Short). inl (c.in-Ok.options, c.in-Ok.ensures.told, short))
    (λ (lost : IsSubscribedTold c.in-Ok.options _ _ Lost). inr (c.in-Ok.options, c.in-Ok.ensures.told, lost))
    (told_short (IsSubscribedTold c.in-Ok.options _ _) c.subscribe_told.result is (c.subscribe_told.ensures.ended (λ one. omega (arith, one, is)) (λ two. omega (arith, two, is))))

pub returns-in-Err-clause-done : goal.returns-in-Err-clause-done
returns-in-Err-clause-done g c = λ none is. absurd (none_held _ c.in-Err.fault c.line_status.result c.in-Err.ensures.fault c.line_status.ensures none is)

pub returns-in-Err-clause-short : goal.returns-in-Err-clause-short
returns-in-Err-clause-short g c = λ three. absurd (none_short c.in-Err.fault c.line_status.result c.line_status.ensures three)
