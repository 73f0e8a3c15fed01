use Rattle.std.proofs.Common.{◌∙◌, ap, inl, inr}
use Rattle.std.proofs.lemmas.Result.{IfOk-weaker}
use Rattle.subscriber.specs.Losing.{with_device}
use Rattle.subscriber.specs.Offers.{SubscriberDevice, tied_anew}
use Rattle.subscriber.proofs.subscription.Subscription.turns.Goals as goal

pub returns-then-not-takes_the_place-clause-turns : goal.returns-then-not-takes_the_place-clause-turns
returns-then-not-takes_the_place-clause-turns g c = (
  c.rebuilt-rebuilt.result,
  c.rebuilt-rebuilt.ensures,
  inl (record {
    stays = λ way. let so = c.takes_the_place.ensures.1 way in let not = c.if-not-takes_the_place.true in cc;
    warns = c.warn.ensures.warns;
  }),
)

pub returns-then-is_again-clause-turns : goal.returns-then-is_again-clause-turns
returns-then-is_again-clause-turns g c = (
  c.rebuilt-rebuilt.result,
  c.rebuilt-rebuilt.ensures,
  inr (inl (record {
    way = c.takes_the_place.ensures.0 (let so = c.if-not-takes_the_place.false in cc);
    again = c.is_again.ensures.0 (let so = c.if-is_again.true in cc);
    tied = ap (λ (d : SubscriberDevice). with_device c.args.session.now d) (c.tie.ensures ∙ ap (λ (d : SubscriberDevice). tied_anew d c.args.meeting.now.from) c.device_mut.ensures.value);
  })),
)

pub returns-clause-turns : goal.returns-clause-turns
returns-clause-turns g c = IfOk-weaker c.replace.result _ _ (λ _ renewed. (
  c.rebuilt-rebuilt.result,
  c.rebuilt-rebuilt.ensures,
  inr (inr (record {
    way = c.takes_the_place.ensures.0 (let so = c.if-not-takes_the_place.false in cc);
    other = λ again. let so = c.is_again.ensures.1 again in let not = c.if-is_again.false in cc;
    replaced = renewed;
  })),
)) c.replace.ensures.renewed
