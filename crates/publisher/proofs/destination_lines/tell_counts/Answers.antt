use Rattle.std.proofs.Common.{◌∙◌, ap}
use Rattle.publisher.specs.declared.progress.Progress.{Progress}
use Rattle.publisher.proofs.Stopping.{shown_alone}
use Rattle.publisher.proofs.destination_lines.tell_counts.Goals as goal

pub returns-in_default-clause-faulted : goal.returns-in_default-clause-faulted
returns-in_default-clause-faulted g c = ap (λ (p : Progress). p.faulted) c.shows.ensures.shown ∙ (shown_alone c.args.progress.now c.messages-messages.result c.args.now c.args.last).0

pub returns-in_default-clause-ended : goal.returns-in_default-clause-ended
returns-in_default-clause-ended g c = ap (λ (p : Progress). p.ended) c.shows.ensures.shown ∙ (shown_alone c.args.progress.now c.messages-messages.result c.args.now c.args.last).1

pub returns-clause-faulted : goal.returns-clause-faulted
returns-clause-faulted g c = ap (λ (p : Progress). p.faulted) c.shows.ensures.shown ∙ (shown_alone c.args.progress.now c.messages-messages.result c.args.now c.args.last).0

pub returns-clause-ended : goal.returns-clause-ended
returns-clause-ended g c = ap (λ (p : Progress). p.ended) c.shows.ensures.shown ∙ (shown_alone c.args.progress.now c.messages-messages.result c.args.now c.args.last).1
