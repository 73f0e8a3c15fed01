use Rattle.std.proofs.Common.{◌∙◌, ℕ, Option, subst, sym}
use Rattle.std.proofs.lemmas.Result.{err_from_is_err_and}
use Rattle.publisher.specs.Judging.{end_in}
use Rattle.publisher.specs.Judges.{TellsWhy}
use Rattle.publisher.proofs.Short.{told_along}
use Rattle.publisher.proofs.Stopping.{stopped}
use Rattle.publisher.proofs.sender_thread.judge.Goals as goal

pub returns-clause-told : goal.returns-clause-told
returns-clause-told g c =
    let plan = c.args.context.now.plan.now in let destinations = c.args.destinations.now in let told = c.tell_ending-told.result in
    let line = told_along c.in-Some.ending destinations c.end_in-end.result plan.linger plan.wait c.tail_in-tail.result told (sym c.ending_along-ending.ensures ∙ c.in-Some.is) c.tell_ending-told.ensures.whole c.tell_ending-told.ensures.short in
    (c.tail.result, subst (λ (tail : ℕ). TellsWhy c.in-Some.ending (end_in c.args.reading.now) tail destinations told) c.tail_in-tail.ensures (subst (λ (end : Option ℕ). TellsWhy c.in-Some.ending end c.tail_in-tail.result destinations told) c.end_in-end.ensures line))

pub returns-in_err-check_reading-clause-fails : goal.returns-in_err-check_reading-clause-fails
returns-in_err-check_reading-clause-fails g c =
    let p = err_from_is_err_and c.from_residual.result c.from_residual.ensures.1 in
    rw (p.1, p.2) (stopped _ c.args.reading.now c.messages_in-messages.result _ (sym c.in_err-check_reading.ensures.stops))
