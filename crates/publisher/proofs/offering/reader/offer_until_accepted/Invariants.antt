use Rattle.shared_log.specs.Books.{IsDone}
use Rattle.publisher.specs.Offers.{PublishesNone}
use Rattle.publisher.proofs.offering.reader.offer_until_accepted.Given as goal

abbrev pub invariant-loop-turn : goal.invariant-loop-turn
invariant-loop-turn g l = IsDone l.context.state.now.log l.publisher × PublishesNone l.fn.publisher.pass l.publisher.pass
