use Rattle.std.proofs.Common.{◌∙◌, ap, sym}
use Rattle.subscriber.specs.Watches.{after_call}
use Rattle.subscriber.proofs.listening.reception.Reception.hear.Goals.{in-Ok, in-Err}
use Rattle.subscriber.proofs.listening.reception.Reception.hear.Goals as goal

pub returns-clause-noted : goal.returns-clause-noted
returns-clause-noted c = (
  c.hear.result,
  elim c.match-hear.branch [
    | in-Ok w ↦ w.watch-is ∙ w.work.ensures ∙ ap (λ r. after_call r c.args.watch.now) (sym w.in-Ok.is)
    | in-Err w ↦ w.watch-is ∙ w.lose.ensures ∙ ap (λ r. after_call r c.args.watch.now) (sym w.in-Err.is)
  ],
)
