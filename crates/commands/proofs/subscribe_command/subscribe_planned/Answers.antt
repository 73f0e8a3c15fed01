use Rattle.std.proofs.Common.{◌∙◌, arith, sym}
use Rattle.commands.proofs.Ended.{once_so, subscribed_so}
use Rattle.commands.proofs.subscribe_command.subscribe_planned.Goals as goal

pub returns-in-Ok-clause-short : goal.returns-in-Ok-clause-short
returns-in-Ok-clause-short g c = λ three.
    let s = c.subscribe-ended.ensures in
    once_so c.args.plan.now _ _ c.subscribe-ended.result s.writes s.lives s.few s.ended s.short (sym c.subscribed.ensures.value ∙ three)

pub returns-in-Ok-clause-ended : goal.returns-in-Ok-clause-ended
returns-in-Ok-clause-ended g c = λ not.
    let s = c.subscribe-ended.ensures in
    let value = c.subscribed.ensures.value in
    let so = subscribed_so c.args.plan.now _ _ c.subscribe-ended.result s.writes s.lives s.few s.ended (λ one. not (value ∙ one)) in
    (so.0, value ∙ so.1, so.2)

pub returns-in-Err-clause-short : goal.returns-in-Err-clause-short
returns-in-Err-clause-short g c = λ three. let one = c.failed.ensures in absurd (omega (arith, one, three))

pub returns-in-Err-clause-ended : goal.returns-in-Err-clause-ended
returns-in-Err-clause-ended g c = λ not. absurd (not c.failed.ensures)
