use Rattle.std.proofs.Common.{◌<◌, List, length, subst, sym}
use Rattle.commands.specs.Done.{PublishesAlong}
use Rattle.channel.specs.declared.channel.Transport.{Transport}
use Rattle.commands.proofs.Routes.{some_ways}
use Rattle.commands.proofs.publish_command.publish_to.Goals as goal

pub publish_planned-requires-clause-some : goal.publish_planned-requires-clause-some
publish_planned-requires-clause-some g c κs within =
    subst (λ (xs : List Transport). 0 < length xs) (sym c.deref.ensures.value) (some_ways c.args.plan.now.end.transport c.args.to.now c.in-Ok.ways.items c.in-Ok.ensures.made)

pub returns-in-Ok-clause-whole : goal.returns-in-Ok-clause-whole
returns-in-Ok-clause-whole g c = λ is. record {
  ways = c.in-Ok.ways.items;
  lead = c.in-Ok.ensures.made;
  published = subst (λ (xs : List Transport). PublishesAlong c.args.plan.now xs (g.R.Read.remaining c.args.input)) c.deref.ensures.value (c.publish_planned.ensures.whole is);
}
