use Rattle.std.proofs.Common.{rules}
use Rattle.std.proofs.lemmas.Iterator.{IsFirst-from_position, YieldsList-from_slice}
use borrow.Author.Tests.{tests}
use Rattle.subscriber.proofs.Choices.{found, unfound}
use Rattle.subscriber.specs.Choosing.{IsItsOwn}
use Rattle.subscriber.specs.declared.images.session.Session.{Session}
use Rattle.subscriber.proofs.subscription.offers.own_place.Goals as goal

pub returns-clause-found : goal.returns-clause-found
returns-clause-found c =
    found (IsItsOwn c.args.session) c.args.sessions.now c.position.result
    (IsFirst-from_position _ _ c.position.result (IsItsOwn c.args.session) (λ (j : Session). ¬ (IsItsOwn c.args.session) j) c.position.ensures.ran (YieldsList-from_slice c.args.sessions.now cc) (λ x q k. search (rules, tests)) (λ x q k. search (rules, tests)))

pub returns-clause-none : goal.returns-clause-none
returns-clause-none c =
    unfound (IsItsOwn c.args.session) c.args.sessions.now c.position.result
    (IsFirst-from_position _ _ c.position.result (IsItsOwn c.args.session) (λ (j : Session). ¬ (IsItsOwn c.args.session) j) c.position.ensures.ran (YieldsList-from_slice c.args.sessions.now cc) (λ x q k. search (rules, tests)) (λ x q k. search (rules, tests)))
