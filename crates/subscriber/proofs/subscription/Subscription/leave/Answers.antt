use Rattle.std.proofs.Common.{refl}
use Rattle.subscriber.proofs.Farewells.{all_left_still}
use Rattle.subscriber.proofs.subscription.Subscription.leave.Goals as goal

pub returns-then-are_settled-clause-left : goal.returns-then-are_settled-clause-left
returns-then-are_settled-clause-left g c = all_left_still c.args.sessions.now

pub returns-then-are_settled-clause-leaves : goal.returns-then-are_settled-clause-leaves
returns-then-are_settled-clause-leaves g c =
    let s = c.are_settled.ensures in
    record { stands = s.stands; are = s.are; settled = λ all. refl; unsettled = λ not. absurd (not (s.is.0 (let so = c.if-are_settled.true in cc))) }

pub returns-clause-leaves : goal.returns-clause-leaves
returns-clause-leaves g c =
    let s = c.are_settled.ensures in
    record { stands = s.stands; are = s.are; settled = λ all. absurd (let so = s.is.1 all in let no = c.if-are_settled.false in cc); unsettled = λ not. c.bid_farewell.ensures.farewell }
