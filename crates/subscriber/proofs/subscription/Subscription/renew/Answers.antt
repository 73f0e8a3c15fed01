use Rattle.std.proofs.Common.{ℕ, ◌∙◌, ap, rules, subst}
use Rattle.subscriber.specs.Images.{next_images}
use Rattle.subscriber.specs.Turning.{CameAt}
use Rattle.subscriber.proofs.subscription.Subscription.renew.Goals as goal

pub returns-clause-renewed : goal.returns-clause-renewed
returns-clause-renewed c = record {
  stand = c.cut_behind.ensures.0;
  stands = c.cut_behind.ensures.1;
  images = c.next-images.ensures ∙ ap (λ cut. next_images c.args.session.now.images c.args.loss cut) c.cut_behind.ensures.2;
  met = search rules;
  fresh = search rules;
  opening = search rules;
  device = search rules;
  watch = search rules;
  lost = search rules;
  silent = search rules;
  warned = search rules;
  ended = search rules;
  unheard = search rules;
  opened = search rules;
  came = subst (λ (n : ℕ). CameAt n c.args.session.now c.next_came-session.result) c.moment-now.ensures c.next_came-session.ensures;
}
