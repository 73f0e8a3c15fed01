use Rattle.std.proofs.Common.{inr, subst}
use Rattle.commands.specs.Done.{PublishesTo}
use Rattle.commands.specs.Statuses.{NoWays}
use Rattle.commands.proofs.publish_command.publish_told.Goals as goal

pub returns-in-Ok-2-clause-refused : goal.returns-in-Ok-2-clause-refused
returns-in-Ok-2-clause-refused g c = λ two.
    inr (c.drawn_ids-given.result.0, c.in-Ok.field-0, c.in-Ok.ensures.made, subst (NoWays c.in-Ok.field-0) c.deref.ensures.value (c.publish_to.ensures.refused two))

pub returns-in-Ok-2-clause-whole : goal.returns-in-Ok-2-clause-whole
returns-in-Ok-2-clause-whole g c = λ is. record {
  drawn = c.drawn_ids-given.result.0;
  plan = c.in-Ok.field-0;
  planned = c.in-Ok.ensures.made;
  published = subst (λ to. PublishesTo c.in-Ok.field-0 to (g.R.Read.remaining c.args.input)) c.deref.ensures.value (c.publish_to.ensures.whole is);
}
