use Rattle.std.proofs.Common.{◌∙◌, List, subst, sym}
use Rattle.endpoint.specs.declared.udp.Route.{Route}
use Rattle.publisher.specs.Ended.{PublishesAll}
use Rattle.commands.proofs.Ended.{published_whole}
use Rattle.commands.proofs.publish_command.publish_planned.Goals as goal

pub returns-in-Ok-clause-whole : goal.returns-in-Ok-clause-whole
returns-in-Ok-clause-whole g c = λ is. record {
  routes = c.in-Ok.routes.items;
  along = c.in-Ok.ensures.routes;
  apart = c.in-Ok.ensures.apart;
  published = subst (λ (rs : List Route). PublishesAll c.args.plan.now rs (g.R.Read.remaining c.args.input)) c.deref-in-Ok.ensures.value
      (published_whole c.publish-ended.result _ c.publish-ended.ensures.whole (sym c.published.ensures.value ∙ is));
}
